-- Laws of what is written into the bytes of a net: no other row changes, and what is written beside its sets is read back and leaves
-- the sets as they were.
-- Assumes nothing.
use Prim.Native.Nat.{ℕ, ◌+◌, ◌*◌, ◌≤◌, ◌<◌}
use mathlib.Core.List.{List}
use mathlib.Core.Logic.{◌⊎◌, inl, inr, ⊎_elim}
use mathlib.Core.Path.{◌≡◌, sym, ◌∙◌}
use native.Mathlib.Omega.{arith}
use lib.ListN.{length, get_or, set, length-set}
use lib.Seq.{get_or-set_same, get_or-set_other}
use Rattle.laws.specs.Settled.{SettledAfter}
use Rattle.laws.proofs.Numbers.{outside_record}
use Rattle.excitation.specs.UncertaintySet.{UncertaintySet}
use Rattle.fill.specs.Filling.{Filled}
use Rattle.rows.specs.Rows.{HasRow, RowMade}
use Rattle.rows.proofs.Rows.{sets_kept}
use Rattle.waveform.specs.Rows.{row_byte, OthersKept, EndsWritten}

-- The rows of other nets, where the sets of one were made, or filled, and where two changes follow one another.

sets_only : (net : ℕ) (work after : List ℕ) → length after ≡ length work
    → ((j : ℕ) → (j < 160 * net) ⊎ (160 * net + 128 ≤ j) → get_or after j 0 ≡ get_or work j 0) → OthersKept net work after
sets_only net work after long rest = record {
  long = long;
  kept = λ other k n h. rest (160 * other + k) (⊎_elim (λ l. inl l) (λ l. inr (omega arith)) (outside_record 160 net other k n h));
}

pub row_others : {rule : ℕ → UncertaintySet} {net : ℕ} {work after : List ℕ} → RowMade rule net 256 work after → OthersKept net work after
row_others {rule} {net} {work} {after} made = sets_only net work after made.long made.rest

pub filled_others : {hops last net : ℕ} {work after : List ℕ} → Filled hops last net work after → OthersKept net work after
filled_others {hops} {last} {net} {work} {after} fills = sets_only net work after fills.only.long fills.only.rest

pub filled_room : {hops last net : ℕ} {work after : List ℕ} → Filled hops last net work after → HasRow work net → HasRow after net
filled_room fills room = record { whole = omega (arith, fills.only.long, room.whole); numbered = room.numbered }

pub others_then : {net : ℕ} {work between after : List ℕ} → OthersKept net work between → OthersKept net between after → OthersKept net work after
others_then first second = record {
  long = second.long ∙ first.long;
  kept = λ other k n h. second.kept other k n h ∙ first.kept other k n h;
}

-- Sets that are the same as sets that settle.
pub settled_as : {last : ℕ} {given after : ℕ → UncertaintySet} → ((t : ℕ) → t < 256 → after t ≡ given t) → SettledAfter last given → SettledAfter last after
settled_as same settled = record { same = λ t h q. same t q ∙ settled.same t h q ∙ sym (same 255 (omega arith)) }

-- The three bytes beside a net's sets.
module _ (net before arrival last : ℕ) (work : List ℕ) (room : HasRow work net) where
  abbrev once : List ℕ
  once = set work (160 * net + 128) before

  abbrev twice : List ℕ
  twice = set once (160 * net + 129) arrival

  abbrev whole : List ℕ
  whole = set twice (160 * net + 130) last

  once_long : length once ≡ length work
  once_long = length-set work (160 * net + 128) before

  twice_long : length twice ≡ length work
  twice_long = length-set once (160 * net + 129) arrival ∙ once_long

  elsewhere : (j : ℕ) → (j ≡ 160 * net + 128 → ⊥) → (j ≡ 160 * net + 129 → ⊥) → (j ≡ 160 * net + 130 → ⊥) → get_or whole j 0 ≡ get_or work j 0
  elsewhere j m n o =
      get_or-set_other twice (160 * net + 130) j last 0 o ∙ get_or-set_other once (160 * net + 129) j arrival 0 n ∙ get_or-set_other work (160 * net + 128) j before 0 m

  kept : (other k : ℕ) → (other ≡ net → ⊥) → k < 160 → row_byte whole other k ≡ row_byte work other k
  kept other k n h =
      let out = outside_record 160 net other k n h in
      elsewhere (160 * other + k) (λ z. ⊎_elim (λ l. omega arith) (λ l. omega arith) out) (λ z. ⊎_elim (λ l. omega arith) (λ l. omega arith) out)
      (λ z. ⊎_elim (λ l. omega arith) (λ l. omega arith) out)

  pub ends_written : EndsWritten net before arrival last work whole
  ends_written = record {
    others = record { long = length-set twice (160 * net + 130) last ∙ twice_long; kept = kept };
    sets = sets_kept net work whole (λ k h. elsewhere (160 * net + k) (λ z. omega arith) (λ z. omega arith) (λ z. omega arith));
    earliest = get_or-set_other twice (160 * net + 130) (160 * net + 128) last 0 (λ z. omega arith)
        ∙ get_or-set_other once (160 * net + 129) (160 * net + 128) arrival 0 (λ z. omega arith)
        ∙ get_or-set_same work (160 * net + 128) before 0 (omega (arith, room.whole));
    arrives = get_or-set_other twice (160 * net + 130) (160 * net + 129) last 0 (λ z. omega arith)
        ∙ get_or-set_same once (160 * net + 129) arrival 0 (omega (arith, once_long, room.whole));
    settles = get_or-set_same twice (160 * net + 130) last 0 (omega (arith, twice_long, room.whole));
  }
