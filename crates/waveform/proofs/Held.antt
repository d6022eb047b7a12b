-- Laws of a row made in two steps, and of one that holds a set from some part on.
-- Assumes nothing.
use Prim.Native.Nat.{ℕ, ◌+◌, ◌-◌, ◌*◌, ◌≤◌, ◌<◌}
use mathlib.Core.Bool.{cond}
use mathlib.Core.List.{List}
use mathlib.Core.Logic.{⊎_elim, inl, inr}
use mathlib.Core.Path.{◌≡◌, refl, ap, ◌∙◌}
use native.Mathlib.Omega.{arith}
use lib.Dec.{ltb}
use borrow.Author.Tests.{ltb-true, ltb-false, lt-ltb, le-ltb}
use borrow.Table.Steps.{cases}
use Rattle.excitation.specs.UncertaintySet.{UncertaintySet}
use Rattle.parts.specs.Parts.{set_at}
use Rattle.parts.specs.declared.Part.{Part}
use Rattle.rows.specs.Rows.{set_in, PartWritten, RowMade}
use Rattle.rows.proofs.Rows.{row_next}
use Rattle.waveform.specs.Pins.{held_from}

-- A row made by one rule, and then by a second that gives what a third gives.
pub row_then : {first second : ℕ → UncertaintySet} (rule : ℕ → UncertaintySet) (net n m : ℕ) {given now after : List ℕ} → n ≤ m
    → RowMade first net n given now → RowMade second net m now after → ((t : ℕ) → t < m → second t ≡ rule t) → RowMade rule net m given after
row_then rule net n m l w v same = record {
  long = v.long ∙ w.long;
  sets = λ t h. v.sets t h ∙ same t h;
  rest = λ j o. v.rest j o ∙ w.rest j (⊎_elim (λ h. inl h) (λ h. inr (omega arith)) o);
}

-- A row that is as given at its first n ticks and holds one set after them.
abbrev pub held_after : ℕ → (ℕ → UncertaintySet) → UncertaintySet → ℕ → UncertaintySet
held_after n given s t = cond (ltb t n) (given t) s

pub held_next : (net from part : ℕ) (settled : Part) {given now after : List ℕ} → from ≤ part → ((k : ℕ) → k < 64 → set_at settled k ≡ set_at settled 63)
    → RowMade (held_after (64 * from) (set_in given net) (set_at settled 63)) net (64 * part) given now
    → PartWritten settled (160 * net + 32 * part) now after
    → RowMade (held_after (64 * from) (set_in given net) (set_at settled 63)) net (64 * (part + 1)) given after
held_next net from part settled l same made written =
    row_next _ net part settled made written (λ k h. rw (le-ltb (64 * part + k) (64 * from) (omega arith)) (same k h))

-- A row that holds the last of 64 sets from a part on, later by d ticks.
module _ (net : ℕ) (given : List ℕ) (earlier : Part) (d parts : ℕ) where
  abbrev Rest : ℕ → List ℕ → Type 0
  Rest n after = RowMade (held_from earlier d parts (set_in given net)) net n given after

  pub rest_none : (n : ℕ) → n ≤ 64 * parts → Rest n given
  unfolding held_from
  rest_none n l = record { long = refl; sets = λ t h. rw (lt-ltb t (64 * parts) (omega arith)) refl; rest = λ j o. refl }

  module _ (settled : Part) (last : (k : ℕ) → k < 64 → set_at settled k ≡ set_at earlier 63) where
    -- The first part has the sets before it at d ticks, and the last of them at the others.
    first_held : (first : Part) (k : ℕ) → k < 64 → set_at first k ≡ cond (ltb k d) (set_at earlier (k + 64 - d)) (set_at settled (k - d))
        → set_at first k ≡ held_from earlier d parts (set_in given net) (64 * parts + k)
    unfolding held_from
    first_held first k h shifted =
        rw (le-ltb (64 * parts + k) (64 * parts) (omega arith))
        (shifted
        ∙ cases (ltb k d)
        (λ t. let l = ltb-true k d t in
        let e : k + 64 - d ≡ 64 * parts + k + 64 - (64 * parts + d) = omega arith in
        rw (t, lt-ltb (64 * parts + k) (64 * parts + d) (omega arith)) (ap (set_at earlier) e))
        (λ t. let l = ltb-false k d t in rw (t, le-ltb (64 * parts + k) (64 * parts + d) (omega arith)) (last (k - d) (omega arith))))

    pub rest_first : (first : Part) {now : List ℕ}
        → ((k : ℕ) → k < 64 → set_at first k ≡ cond (ltb k d) (set_at earlier (k + 64 - d)) (set_at settled (k - d)))
        → PartWritten first (160 * net + 32 * parts) given now → Rest (64 * (parts + 1)) now
    rest_first first shifted written =
        row_next _ net parts first (rest_none (64 * parts) (omega arith)) written (λ k h. first_held first k h (shifted k h))

    -- The parts after the first have the last of them.
    pub rest_held : {now after : List ℕ} → d < 64 → parts < 4 → Rest (64 * (parts + 1)) now
        → RowMade (held_after (64 * (parts + 1)) (set_in now net) (set_at settled 63)) net 256 now after → Rest 256 after
    unfolding held_from
    rest_held high few first others =
        row_then _ net (64 * (parts + 1)) 256 (omega arith) first others
        (λ t h. cases (ltb t (64 * (parts + 1)))
        (λ b. rw b (first.sets t (ltb-true t (64 * (parts + 1)) b)))
        (λ b. let l = ltb-false t (64 * (parts + 1)) b in
        rw (b, le-ltb t (64 * parts) (omega arith), le-ltb t (64 * parts + d) (omega arith)) (last 63 (omega arith))))
