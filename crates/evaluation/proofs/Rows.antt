-- Laws of the rows of a work buffer: those of other nets stay as one is written.
-- Assumes nothing.
use Prim.Native.Nat.{ℕ, ◌+◌, ◌<◌}
use mathlib.Core.List.{List}
use mathlib.Core.Path.{◌≡◌, refl, ap, sym, ◌∙◌}
use native.Mathlib.Omega.{arith}
use lib.ListN.{get_or}
use borrow.Author.Count.{below_more}
use Rattle.laws.proofs.Turn.{list_same}
use Rattle.excitation.specs.UncertaintySet.{decode, empty}
use Rattle.block.specs.Block.{switching_tick}
use Rattle.block.specs.Record.{File}
use Rattle.rows.specs.Rows.{HasRow, set_in}
use Rattle.rows.proofs.Rows.{sets_kept}
use Rattle.waveform.specs.Rows.{waveform_in, arrival_in, last_in, SettledRow, OthersKept, InputMade}
use Rattle.waveform.specs.Waveform.{envelope, input_waveform}
use Rattle.waveform.proofs.Waveforms.{waveform_is}
use Rattle.evaluation.specs.Evaluation.{HasRows, InputsMade}

pub has_row : {work : List ℕ} {nets : ℕ} (net : ℕ) → HasRows work nets → net < nets → HasRow work net
has_row net rows h = record { whole = omega (arith, rows.whole); numbered = omega (arith, rows.numbered) }

module _ {net : ℕ} {work after : List ℕ} (kept : OthersKept net work after) where
  set_kept : (other t : ℕ) → (other ≡ net → ⊥) → t < 256 → set_in after other t ≡ set_in work other t
  set_kept other t n h = sets_kept other work after (λ k l. kept.kept other k n (omega arith)) t h

  pub waveform_kept : (other : ℕ) → (other ≡ net → ⊥) → waveform_in after other ≡ waveform_in work other
  unfolding waveform_in
  waveform_kept other n =
      waveform_is _ _ (ap decode (kept.kept other 128 n (omega arith)))
      (list_same 256 (set_in after other) (set_in work other) empty (λ t h. set_kept other t n h))

  pub arrival_kept : (other : ℕ) → (other ≡ net → ⊥) → arrival_in after other ≡ arrival_in work other
  arrival_kept other n = kept.kept other 129 n (omega arith)

  pub settled_kept : (other : ℕ) → (other ≡ net → ⊥) → SettledRow work other → SettledRow after other
  settled_kept other n s =
      let last : last_in after other ≡ last_in work other = kept.kept other 130 n (omega arith) in
      record {
        soon = omega (arith, last, arrival_kept other n, s.soon);
        settled = record { same = λ t h q. set_kept other t n q ∙ s.settled.same t (omega arith) q ∙ sym (set_kept other 255 n (omega arith)) };
      }

-- The inputs' waveforms, one after the other.

pub inputs_none : (file : File) (codes work : List ℕ) → InputsMade file 0 codes work work
inputs_none file codes work = record { long = refl; waveform = λ net h. absurd (omega arith); arrives = λ net h. absurd (omega arith); settled = λ net h. absurd (omega arith) }

pub inputs_next : (file : File) (n : ℕ) (codes given work after : List ℕ) → InputsMade file n codes given work
    → InputMade n (switching_tick file n) (get_or codes n 0) work after → InputsMade file (n + 1) codes given after
inputs_next file n codes given work after made here = record {
  long = here.others.long ∙ made.long;
  waveform = below_more (λ net. (hops : ℕ) → waveform_in after net ≡ input_waveform (envelope hops) (switching_tick file net) (decode (get_or codes net 0))) n
      (λ net h hops. waveform_kept here.others net (λ e. omega arith) ∙ made.waveform net h hops)
      here.waveform;
  arrives = below_more (λ net. arrival_in after net ≡ switching_tick file net) n
      (λ net h. arrival_kept here.others net (λ e. omega arith) ∙ made.arrives net h)
      here.arrives;
  settled = below_more (SettledRow after) n (λ net h. settled_kept here.others net (λ e. omega arith) (made.settled net h)) here.settled;
}
