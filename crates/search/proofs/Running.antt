-- Laws of the search's loop: where the search stands before each split, how it goes on, and how it ends.
-- Assumes nothing.
use Prim.Native.Nat.{ℕ, ◌+◌, ◌*◌, ◌-◌, ◌≤◌, ◌<◌}
use mathlib.Core.List.{List}
use mathlib.Core.Path.{◌≡◌, refl, ap, sym, subst, ◌∙◌}
use native.Mathlib.Omega.{arith}
use lib.ListN.{length}
use Rattle.laws.specs.Below.{argmax}
use Rattle.block.specs.Limits.{drop_limit}
use Rattle.std.specs.declared.option.Option.{Option}
use Rattle.std.specs.declared.option.Option.TheVariants.{Some}
use Rattle.operation.specs.declared.Outcome.{Outcome}
use Rattle.operation.specs.declared.Outcome.TheVariants.{Exact, Within, Spent}
use Rattle.evaluation.specs.declared.Setting.{Setting}
use Rattle.cases.specs.Choice.{first_undecided}
use Rattle.cases.specs.Probes.{ProbesCovered}
use Rattle.cases.specs.Records.{upper_in}
use Rattle.cases.specs.Search.{search_from}
use Rattle.cases.proofs.Records.{next_split_lem, greatest_upper_lem}
use Rattle.cases.proofs.Probes.{split_covered}
use Rattle.cases.proofs.Outcomes.{stop_exact, stop_within, stop_spent, goes_on}
use Rattle.bounds.specs.Bounds.{pattern_drop, case_drop}
use Rattle.search.specs.declared.run.RunEnd.{RunEnd}
use Rattle.search.specs.Steps.{Running, PastKept, CaseToSplit, CaseSplit, EndsSo, EndsAt, Ran, best_in, state_in}

-- What is kept past some cases is kept past more, and through two steps where it is in each.
pub past_kept : {inputs n m : ℕ} {store pattern store' pattern' store'' pattern'' : List ℕ} → n ≤ m
    → PastKept inputs n store pattern store' pattern' → PastKept inputs m store' pattern' store'' pattern''
    → PastKept inputs m store pattern store'' pattern''
past_kept more first second = record {
  store_long = second.store_long ∙ first.store_long;
  store_past = λ j l. second.store_past j l ∙ first.store_past j (omega arith);
  pattern_long = second.pattern_long ∙ first.pattern_long;
  pattern_past = λ j l. second.pattern_past j l ∙ first.pattern_past j l;
}

-- Where a search stands before a split, after so many splits: what is left of it is what is left of the search from the first case on.
pub record Reached (setting : Setting) (order : List ℕ) (ratio budget threshold : ℕ) (store pattern : List ℕ)
    (n best splits : ℕ) (store' pattern' : List ℕ) : Type 0 where
  pub rest : search_from (pattern_drop setting) (case_drop setting) (first_undecided order) ratio (budget - splits) splits
      (state_in setting.inputs n best store' pattern')
      ≡ search_from (pattern_drop setting) (case_drop setting) (first_undecided order) ratio budget 0 (state_in setting.inputs 1 threshold store pattern)
  pub running : Running setting.inputs n best store' pattern'
  pub covered : ProbesCovered (pattern_drop setting) (state_in setting.inputs n best store' pattern')
  pub past : PastKept setting.inputs n store pattern store' pattern'
  pub afforded : splits ≤ budget
  pub few : n ≤ 1 + 3 * splits

-- The search begins with one case and no split.
pub reached_first : {setting : Setting} {order : List ℕ} {ratio budget threshold : ℕ} {store pattern : List ℕ}
    → Running setting.inputs 1 threshold store pattern → ProbesCovered (pattern_drop setting) (state_in setting.inputs 1 threshold store pattern)
    → Reached setting order ratio budget threshold store pattern 1 threshold 0 store pattern
reached_first {budget = budget} running covered =
    let e : budget - 0 ≡ budget = omega arith in
    record {
      rest = rw e refl;
      running = running;
      covered = covered;
      past = record { store_long = refl; store_past = λ j l. refl; pattern_long = refl; pattern_past = λ j l. refl };
      afforded = omega arith;
      few = omega arith;
    }

-- The children of a split have room in the store.
pub split_room : {setting : Setting} {order : List ℕ} {ratio budget threshold : ℕ} {store pattern : List ℕ} {n best splits : ℕ} {store' pattern' : List ℕ}
    → Reached setting order ratio budget threshold store pattern n best splits store' pattern' → (splits ≡ budget → ⊥) → budget ≤ 10000
    → 72 * (1 + 3 * budget) ≤ length store → (72 * (n + 3) ≤ length store') × (n + 3 ≤ 30001)
split_room reached left few long =
    (omega (arith, reached.afforded, reached.few, reached.past.store_long), omega (arith, reached.afforded, reached.few))

-- The case that the scan of the store finds.

module _ {inputs n threshold : ℕ} {store pattern : List ℕ} (running : Running inputs n threshold store pattern) (k : ℕ) (inside : k < n) where
  pub upper_low : (upper : ℕ) → upper ≡ upper_in store k → upper < drop_limit
  upper_low upper is = rw is (running.cases.upper_low k inside)

  pub case_to_split : (upper : ℕ) → k ≡ argmax n (upper_in store) → upper ≡ upper_in store k → CaseToSplit inputs n store k upper
  case_to_split upper first is = record {
    place = first ∙ sym (next_split_lem inputs store n);
    inside = inside;
    greatest = is ∙ ap (upper_in store) first ∙ sym (greatest_upper_lem inputs store n running.some);
  }

-- A turn of the loop, by the checks before the split.

module _ {setting : Setting} {order : List ℕ} {ratio budget threshold : ℕ} {store pattern : List ℕ} {n best splits : ℕ}
    {store' pattern' : List ℕ} (reached : Reached setting order ratio budget threshold store pattern n best splits store' pattern')
    {k upper : ℕ} (next : CaseToSplit setting.inputs n store' k upper) where
  abbrev Ends : Outcome → Type 0
  Ends outcome =
      Ran setting order ratio budget (state_in setting.inputs 1 threshold store pattern) store pattern
      (record { outcome = outcome; upper = upper; lower = best - 1; splits = splits; cases = n }) store' pattern'

  ends : (outcome : Outcome)
      → search_from (pattern_drop setting) (case_drop setting) (first_undecided order) ratio (budget - splits) splits (state_in setting.inputs n best store' pattern')
      ≡ record { outcome = outcome; splits = splits; state = state_in setting.inputs n best store' pattern' }
      → Ends outcome
  unfolding state_in
  ends outcome stopped =
      let e : best - 1 + 1 ≡ best = omega (arith, reached.running.threshold_low) in
      record {
        end = record { outcome = outcome; splits = splits; state = state_in setting.inputs n best store' pattern' };
        is = sym stopped ∙ reached.rest;
        outcome = refl;
        upper = next.greatest;
        splits = refl;
        state = ap (λ g. state_in setting.inputs n g store' pattern') e;
        running = rw e reached.running;
        past = reached.past;
      }

  ends_exact : upper ≡ best - 1 → Ends Exact
  unfolding state_in best_in
  ends_exact e = ends Exact (stop_exact _ _ _ ratio (state_in setting.inputs n best store' pattern') (budget - splits) splits (sym next.greatest ∙ e))

  ends_within : (upper ≡ best - 1 → ⊥) → 1000 * upper ≤ ratio * (best - 1) → Ends Within
  unfolding state_in best_in
  ends_within d l =
      ends Within
      (stop_within _ _ _ ratio (state_in setting.inputs n best store' pattern') (budget - splits) splits (λ e. d (next.greatest ∙ e))
      (rw (← next.greatest) l))

  ends_spent : (upper ≡ best - 1 → ⊥) → ratio * (best - 1) < 1000 * upper → splits ≡ budget → Ends Spent
  unfolding state_in best_in
  ends_spent d l spent =
      ends Spent
      (stop_spent _ _ _ ratio (state_in setting.inputs n best store' pattern') (budget - splits) splits (omega arith) (λ e. d (next.greatest ∙ e))
      (rw (← next.greatest) l))

  pub ends_so : {told : Option Outcome} → EndsSo upper (best - 1) ratio splits budget told → (outcome : Outcome) → told ≡ Some outcome → Ends outcome
  ends_so so Exact e = ends_exact (rw e at so)
  ends_so so Within e = let by = rw e at so in ends_within by.0 by.1
  ends_so so Spent e = let by = rw e at so in ends_spent by.0 by.1 by.2

  pub ends_at : {told : Option RunEnd} → EndsAt upper (best - 1) splits n ratio budget told → (end : RunEnd) → told ≡ Some end
      → Ran setting order ratio budget (state_in setting.inputs 1 threshold store pattern) store pattern end store' pattern'
  ends_at so end e =
      let by = rw e at so in
      subst (λ end. Ran setting order ratio budget (state_in setting.inputs 1 threshold store pattern) store pattern end store' pattern') (sym by.0)
      (ends_so by.1 end.outcome refl)

  pub reached_next : {n'' best'' : ℕ} {store'' pattern'' : List ℕ} → (upper ≡ best - 1 → ⊥) → ratio * (best - 1) < 1000 * upper → (splits ≡ budget → ⊥)
      → CaseSplit setting order n best store' pattern' n'' best'' store'' pattern''
      → Reached setting order ratio budget threshold store pattern n'' best'' (splits + 1) store'' pattern''
  unfolding state_in best_in
  reached_next d l left case_split =
      let more : splits < budget = omega (arith, reached.afforded) in
      let e : budget - (splits + 1) ≡ budget - splits - 1 = omega arith in
      record {
        rest = rw (e, case_split.state)
            (goes_on (pattern_drop setting) (case_drop setting) (first_undecided order) ratio (state_in setting.inputs n best store' pattern')
            (budget - splits) splits (omega arith) (λ q. d (next.greatest ∙ q)) (rw (← next.greatest) l) ∙ reached.rest);
        running = case_split.running;
        covered = subst (ProbesCovered (pattern_drop setting)) (sym case_split.state)
            (split_covered (pattern_drop setting) (case_drop setting) (first_undecided order) (state_in setting.inputs n best store' pattern') reached.covered);
        past = past_kept case_split.more reached.past case_split.past;
        afforded = omega arith;
        few = omega (arith, case_split.few, reached.few);
      }
