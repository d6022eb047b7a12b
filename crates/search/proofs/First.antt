-- Laws of the first case: the state of a search once it is made.
-- Assumes nothing.
use Prim.Native.Nat.{ℕ, ◌+◌, ◌*◌, ◌≤◌, ◌<◌, min}
use mathlib.Core.List.{List, [], ◌∷◌}
use mathlib.Core.Logic.{inr}
use mathlib.Core.Path.{◌≡◌, refl, ap, ◌∙◌}
use native.Mathlib.Nat.{min-eq_right}
use native.Mathlib.Omega.{arith}
use lib.ListN.{length, replicate}
use Rattle.laws.specs.Rewritten.{Rewritten}
use Rattle.laws.specs.Turn.{in_turn, list_below}
use Rattle.excitation.specs.UncertaintySet.{sets_in}
use Rattle.excitation.specs.declared.Excitation.{Excitation}
use Rattle.block.specs.Accepted.{AcceptedFile}
use Rattle.block.specs.Block.{frame}
use Rattle.block.specs.Limits.{drop_limit}
use Rattle.block.specs.Record.{File, allowed}
use Rattle.block.proofs.Frames.{frame_sets}
use Rattle.cases.specs.Case.{Case, probe, evaluation_of}
use Rattle.cases.specs.Records.{cases_in, record_byte, HasCases}
use Rattle.cases.specs.Search.{StoredCase, Best, State, first_best, first_state}
use Rattle.cases.specs.Store.{pattern_byte}
use Rattle.cases.proofs.Codes.{probe_low, probe_read}
use Rattle.cases.proofs.Frames.{codes_long, frame_coded}
use Rattle.cases.proofs.Records.{case_of, cases_appended, has_appended}
use Rattle.search.specs.Steps.{best_in, state_in, Running, PastKept, FirstCase}

-- Of every store the first 0 records are those of cases.
no_cases : (inputs : ℕ) (store : List ℕ) → HasCases inputs store 0
no_cases inputs store = record {
  whole = omega arith;
  few = omega arith;
  codes = λ k h. absurd (omega arith);
  upper_low = λ k h. absurd (omega arith);
  upper_bytes = λ k h. absurd (omega arith);
}

best_is : {lower number : ℕ} {pattern other : List Excitation} → lower ≡ number → pattern ≡ other
    → ◌≡◌ {A = Best} (record { lower = lower; pattern = pattern }) (record { lower = number; pattern = other })
best_is e f = λ i. record { lower = e i; pattern = f i }

state_is : {cases others : List StoredCase} {best other : Best} → cases ≡ others → best ≡ other
    → ◌≡◌ {A = State} (record { cases = cases; best = best }) (record { cases = others; best = other })
state_is e f = λ i. record { cases = e i; best = f i }

-- The first case is made, at the first place, under a cap that is above every upper number and with every drop enough to be the best,
-- whatever simulates a pattern and bounds a case.
module _ (simulated : List Excitation → ℕ) (bound : Case → ℕ) {file : File} {nets inputs : ℕ} (accepted : AcceptedFile file nets inputs)
    {codes : List ℕ} (coded : Rewritten (allowed file) 0 inputs (replicate 64 0) codes) where
  abbrev own : ℕ
  own = evaluation_of simulated bound (sets_in inputs codes)

  abbrev drop : ℕ
  drop = simulated (probe (sets_in inputs codes))

  module _ {cap threshold : ℕ} {store pattern store' pattern' : List ℕ} (high : drop_limit ≤ cap)
      (stored : Rewritten (record_byte codes (min cap own)) (72 * 0) 72 store store') (own_low : own < drop_limit) (drop_low : drop < drop_limit)
      (reached : (threshold ≡ drop + 1) × Rewritten (pattern_byte (probe (sets_in inputs codes))) 0 inputs pattern pattern') where
    capped : min cap own ≡ own
    capped = min-eq_right (omega (arith, own_low))

    capped_low : min cap own < drop_limit
    capped_low = rw capped own_low

    first_cases : cases_in inputs store' 1 ≡ case_of inputs codes own ∷ []
    unfolding cases_in list_below in_turn
    first_cases =
        cases_appended inputs accepted.few_inputs codes (codes_long accepted coded) (min cap own) 0 store store' stored 0 capped_low refl
        ∙ ap (λ u. case_of inputs codes u ∷ []) capped

    of_frame : (sets : Case) → sets ≡ frame file
        → ◌≡◌ {A = State}
        (record {
          cases = record { sets = sets; upper = evaluation_of simulated bound sets } ∷ [];
          best = record { lower = simulated (probe sets); pattern = probe sets };
        })
        (first_state simulated bound (frame file))
    unfolding first_state first_best
    of_frame sets e = ap (first_state simulated bound) e

    first_state_lem : state_in inputs 1 threshold store' pattern' ≡ first_state simulated bound (frame file)
    unfolding state_in best_in
    first_state_lem =
        state_is first_cases (best_is (omega (arith, reached.0)) (probe_read inputs codes reached.1))
        ∙ of_frame (sets_in inputs codes) (frame_sets accepted coded)

    first_running : length pattern ≡ 64 → 72 ≤ length store → Running inputs 1 threshold store' pattern'
    first_running long room = record {
      cases = has_appended inputs accepted.few_inputs codes (codes_long accepted coded) (min cap own) 0 store store' stored 0
          (frame_coded accepted coded) capped_low (no_cases inputs store) refl room (omega arith);
      some = omega arith;
      threshold_low = omega (arith, reached.0);
      threshold_high = omega (arith, reached.0, drop_low);
      pattern_long = reached.1.long ∙ long;
      pattern_low = probe_low inputs codes reached.1;
    }

    first_kept : PastKept inputs 1 store pattern store' pattern'
    first_kept = record {
      store_long = stored.long;
      store_past = λ j h. stored.rest j (inr (omega arith));
      pattern_long = reached.1.long;
      pattern_past = λ j h. reached.1.rest j (inr (omega arith));
    }

    pub first_made : length pattern ≡ 64 → 72 ≤ length store → FirstCase simulated bound file inputs store pattern threshold store' pattern'
    first_made long room = record { state = first_state_lem; running = first_running long room; past = first_kept }
