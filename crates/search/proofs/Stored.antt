-- What a store and a pattern hold while cases are made: the cases, and the best probe, which the probe of one case more may better.
-- Assumes nothing.
use Prim.Native.Nat.{ℕ, ◌+◌, ◌*◌, ◌-◌, ◌≤◌, ◌<◌}
use mathlib.Core.List.{List, [], ◌∷◌, ◌++◌}
use mathlib.Core.Logic.{inr}
use mathlib.Core.Path.{◌≡◌, refl, ap, ◌∙◌}
use native.Mathlib.Omega.{arith}
use lib.Dec.{ltb}
use lib.ListN.{length, get_or}
use borrow.Author.Tests.{ltb-true, ltb-false, lt-ltb, le-ltb}
use borrow.Table.Steps.{cases}
use Rattle.laws.specs.Rewritten.{Rewritten}
use Rattle.laws.proofs.Rewritten.{rewritten_first}
use Rattle.excitation.specs.Excitation.{l, pattern_of}
use Rattle.excitation.specs.declared.Excitation.{Excitation}
use Rattle.excitation.proofs.Bytes.{byte_low}
use Rattle.block.specs.Limits.{drop_limit}
use Rattle.cases.specs.Case.{Case, probe}
use Rattle.cases.specs.Records.{cases_in, HasCases}
use Rattle.cases.specs.Store.{pattern_byte}
use Rattle.cases.specs.Search.{StoredCase, Best, better, best_of}
use Rattle.search.specs.Steps.{best_in}

-- A store that holds these cases, and a pattern that holds this best probe, with the threshold that the next probe has to reach. Past them
-- both are as they were given.

pub record CasesStored (inputs : ℕ) (given : List ℕ) (held : List StoredCase) (n : ℕ) (store : List ℕ) : Type 0 where
  pub is : cases_in inputs store n ≡ held
  pub has : HasCases inputs store n
  pub long : length store ≡ length given
  pub past : (j : ℕ) → 72 * n ≤ j → get_or store j 0 ≡ get_or given j 0

pub record BestStored (inputs : ℕ) (given : List ℕ) (held : Best) (threshold : ℕ) (pattern : List ℕ) : Type 0 where
  pub is : best_in inputs threshold pattern ≡ held
  pub threshold_low : 1 ≤ threshold
  pub threshold_high : threshold ≤ drop_limit
  pub long : length pattern ≡ length given
  pub low : (net : ℕ) → net < inputs → get_or pattern net 0 ≤ 3
  pub past : (j : ℕ) → inputs ≤ j → get_or pattern j 0 ≡ get_or given j 0

-- The best probe after one case more.

module _ (simulated : List Excitation → ℕ) where
  pub best_more : (best : Best) (new : List Case) (case : Case) → best_of simulated best (new ++ (case ∷ [])) ≡ better simulated (best_of simulated best new) case
  unfolding best_of
  best_more best [] case = refl
  best_more best (x ∷ new) case = best_more (better simulated best x) new case

  best_kept : (inputs threshold : ℕ) (pattern : List ℕ) (case : Case) → 1 ≤ threshold → simulated (probe case) < threshold
      → best_in inputs threshold pattern ≡ better simulated (best_in inputs threshold pattern) case
  unfolding better best_in
  best_kept inputs threshold pattern case low h = rw (le-ltb (threshold - 1) (simulated (probe case)) (omega arith)) refl

  best_reached : (inputs threshold : ℕ) (pattern after : List ℕ) (case : Case) → 1 ≤ threshold → threshold ≤ simulated (probe case) → pattern_of inputs after ≡ probe case
      → best_in inputs (simulated (probe case) + 1) after ≡ better simulated (best_in inputs threshold pattern) case
  unfolding better best_in
  best_reached inputs threshold pattern after case low h e =
      let d : simulated (probe case) + 1 - 1 ≡ simulated (probe case) = omega arith in
      rw (lt-ltb (threshold - 1) (simulated (probe case)) (omega arith)) (λ i. record { lower = d i; pattern = e i })

  pub best_next : {inputs : ℕ} {given : List ℕ} {held : Best} {threshold threshold' : ℕ} {pattern pattern' : List ℕ} (case : Case)
      → simulated (probe case) < drop_limit
      → (simulated (probe case) < threshold → (threshold' ≡ threshold) × (pattern' ≡ pattern))
      → (threshold ≤ simulated (probe case) → (threshold' ≡ simulated (probe case) + 1) × (pattern_of inputs pattern' ≡ probe case) × Rewritten (pattern_byte (probe case)) 0 inputs pattern pattern')
      → BestStored inputs given held threshold pattern → BestStored inputs given (better simulated held case) threshold' pattern'
  unfolding pattern_byte
  best_next {inputs} {given} {held} {threshold} {threshold'} {pattern} {pattern'} case high kept reached now =
      let drop = simulated (probe case) in
      cases (ltb drop threshold)
      (λ t. let h = ltb-true drop threshold t in
      let q = kept h in
      rw (q.0, q.1) (record {
        is = best_kept inputs threshold pattern case now.threshold_low h ∙ ap (λ best. better simulated best case) now.is;
        threshold_low = now.threshold_low;
        threshold_high = now.threshold_high;
        long = now.long;
        low = now.low;
        past = now.past;
      }))
      (λ t. let h = ltb-false drop threshold t in
      let q = reached h in
      let written = q.2 in
      rw q.0 (record {
        is = best_reached inputs threshold pattern pattern' case now.threshold_low h q.1 ∙ ap (λ best. better simulated best case) now.is;
        threshold_low = omega arith;
        threshold_high = omega arith;
        long = written.long ∙ now.long;
        low = λ net m. omega (arith, rewritten_first _ inputs pattern pattern' written net m, byte_low (get_or (probe case) net l));
        past = λ j m. written.rest j (inr (omega arith)) ∙ now.past j m;
      }))
