-- What a search gives is right, with every bound that keeps its promise and every choice that takes an undecided input, and its sheet is
-- above every pattern's.
-- Assumes nothing.
use Prim.Native.Nat.{ℕ, zero, suc, ◌+◌, ◌≤◌, ◌<◌}
use mathlib.Core.Bool.{true, false}
use mathlib.Core.List.Memᴰ
use mathlib.Core.List.{List, [], ◌∷◌, map, Memᴰ}
use mathlib.Core.Logic.{⊎_elim}
use mathlib.Core.Path.{◌≡◌, refl, sym, subst, ◌∙◌}
use native.Mathlib.Nat.{le_refl, le_trans, zero-add}
use native.Mathlib.Omega.{arith}
use lib.Dec.{ltb}
use lib.ListN.{length, get_or, length-map}
use borrow.Author.Tests.{ltb-true, ltb-false, eq-eqb}
use borrow.Table.Steps.{cases}
use Rattle.laws.proofs.Below.{max_at}
use Rattle.laws.proofs.Pairs.{pairs_long}
use Rattle.excitation.specs.UncertaintySet.{◌∈◌, empty}
use Rattle.excitation.specs.declared.Excitation.{Excitation}
use Rattle.block.specs.Block.{Choice, choice_count}
use Rattle.cases.specs.Case.{Case, undecided, decided, probe, evaluation_of, children}
use Rattle.cases.specs.Search.{StoredCase, no_case, sets_at, greatest_upper, next_split, placed, Best, State, SearchEnd, outcome_of, better, best_of, first_best, made_under, first_state, next_children, split, outcome_at, search_from, search, cases_sheet}
use Rattle.cases.specs.Promise.{UpperBound, Chooses, Covered, Right}
use Rattle.operation.specs.declared.Outcome.{Outcome}
use Rattle.operation.specs.declared.Outcome.TheVariants.{Exact, Within, Spent}
use Rattle.cases.proofs.Cases.{child_filled, child_inside, child_covers, evaluation_decided, evaluation_holds, undecided_inside}
use Rattle.cases.proofs.Splits.{member_at, placed_from, placed_new, placed_kept, covered_by, covering, upper_below, next_inside, next_upper, next_member}
use Rattle.cases.proofs.Counts.{sum_over, sum_more, some_choice, two_choices, children_sum, children_long, stored_choices, made_choices, placed_choices, placed_long}

-- Outcomes

exact_not_spent : Exact ≡ Spent → ⊥
exact_not_spent e = let z : ◌≡◌ {A = ℕ} 0 1 = cc in omega arith

within_not_spent : Within ≡ Spent → ⊥
within_not_spent e = let z : ◌≡◌ {A = ℕ} 0 1 = cc in omega arith

spent_apart : (ratio upper lower : ℕ) → outcome_of ratio upper lower ≡ Spent → upper ≡ lower → ⊥
unfolding outcome_of
spent_apart ratio upper lower e same = exact_not_spent (rw (eq-eqb upper lower same) at e)

module _ (simulated : List Excitation → ℕ) (frame : Case) where
  -- What is known of a case in the store, where L is lower.
  record CaseKnown (lower : ℕ) (x : StoredCase) : Type 0 where
    above : {pattern : List Excitation} → Choice pattern x.sets → simulated pattern ≤ x.upper
    inside : {pattern : List Excitation} → Choice pattern x.sets → Choice pattern frame
    filled : Choice (probe x.sets) x.sets
    tight : decided x.sets ≡ true → x.upper ≤ lower

  -- What is known of the best probe.
  record BestKnown (best : Best) : Type 0 where
    chosen : Choice best.pattern frame
    reached : simulated best.pattern ≡ best.lower

  -- What is known where a search stands after some splits.
  record Standing (splits : ℕ) (state : State) : Type 0 where
    known : {x : StoredCase} → Memᴰ x state.cases → CaseKnown state.best.lower x
    covered : {pattern : List Excitation} → Choice pattern frame → Covered pattern state.cases
    best : BestKnown state.best
    total : stored_choices state.cases ≡ choice_count frame
    many : splits < length state.cases

-- The best probe once more cases are made

module _ (simulated : List Excitation → ℕ) where
  better_grown : (best : Best) (case : Case) → best.lower ≤ (better simulated best case).lower
  unfolding better
  better_grown best case =
      cases (ltb best.lower (simulated (probe case))) (λ t. rw t (omega (arith, ltb-true best.lower (simulated (probe case)) t)))
      (λ t. rw t (le_refl best.lower))

  better_probed : (best : Best) (case : Case) → simulated (probe case) ≤ (better simulated best case).lower
  unfolding better
  better_probed best case =
      cases (ltb best.lower (simulated (probe case))) (λ t. rw t (le_refl (simulated (probe case))))
      (λ t. rw t (ltb-false best.lower (simulated (probe case)) t))

  better_reached : (frame : Case) (best : Best) (case : Case) → BestKnown simulated frame best → Choice (probe case) frame
      → BestKnown simulated frame (better simulated best case)
  unfolding better
  better_reached frame best case reached choice =
      cases (ltb best.lower (simulated (probe case))) (λ t. rw t (record { chosen = choice; reached = refl })) (λ t. rw t reached)

  pub best_grown : (new : List Case) (best : Best) → best.lower ≤ (best_of simulated best new).lower
  unfolding best_of
  best_grown [] best = le_refl best.lower
  best_grown (case ∷ rest) best = le_trans (better_grown best case) (best_grown rest (better simulated best case))

  pub best_probed : (new : List Case) (best : Best) {case : Case} → Memᴰ case new
      → simulated (probe case) ≤ (best_of simulated best new).lower
  unfolding best_of
  best_probed [] best {case = case} m = elim m [ ]
  best_probed (first ∷ rest) best (Memᴰ.head e) =
      rw e (le_trans (better_probed best first) (best_grown rest (better simulated best first)))
  best_probed (first ∷ rest) best (Memᴰ.tail m) = best_probed rest (better simulated best first) m

  best_reached : (frame : Case) (new : List Case) (best : Best) → BestKnown simulated frame best
      → ((case : Case) → Memᴰ case new → Choice (probe case) frame) → BestKnown simulated frame (best_of simulated best new)
  unfolding best_of
  best_reached frame [] best reached chosen = reached
  best_reached frame (case ∷ rest) best reached chosen =
      best_reached frame rest (better simulated best case) (better_reached frame best case reached (chosen case (Memᴰ.head refl)))
      (λ x m. chosen x (Memᴰ.tail m))

module _ (simulated : List Excitation → ℕ) (bound choose : Case → ℕ) (frame : Case) (bounds : UpperBound simulated bound) (chooses : Chooses (length frame) choose) where
  evaluation_above : (pattern : List Excitation) (case : Case) → Choice pattern case → simulated pattern ≤ evaluation_of simulated bound case
  evaluation_above pattern case choice =
      evaluation_holds simulated bound (λ taken. simulated pattern ≤ taken) pattern case choice (le_refl _) (bounds pattern case choice)

  -- Where a search starts.
  first_standing : Choice (probe frame) frame → Standing simulated frame 0 (first_state simulated bound frame)
  unfolding first_state first_best sets_at stored_choices sum_over
  first_standing filled = record {
    known = λ {x} m. subst (CaseKnown simulated frame (simulated (probe frame))) (sym (Memᴰ.eq_of_singleton m)) (record {
      above = λ {pattern} choice. evaluation_above pattern frame choice;
      inside = λ choice. choice;
      filled = filled;
      tight = λ d. rw (evaluation_decided simulated bound frame d) (le_refl _);
    });
    covered = λ choice. record { number = 0; inside = omega arith; choice = choice };
    best = record { chosen = filled; reached = refl };
    total = omega arith;
    many = omega arith;
  }

  module _ (splits : ℕ) (state : State) (standing : Standing simulated frame splits state) where
    abbrev next : ℕ
    next = next_split state.cases

    abbrev parent : Case
    parent = sets_at state.cases next

    not_empty : 1 ≤ length state.cases
    not_empty = omega (arith, standing.many)

    upper_above : {pattern : List Excitation} → Choice pattern frame → simulated pattern ≤ greatest_upper state.cases
    upper_above {pattern} choice =
        let x = covering pattern state.cases (standing.covered choice) in
        le_trans ((standing.known x.1).above x.2) (upper_below state.cases x.1)

    parent_known : CaseKnown simulated frame state.best.lower (get_or state.cases next no_case)
    parent_known = standing.known (next_member state.cases not_empty)

    -- Every case in the store has as many inputs as the frame: its probe is one of its patterns, and those are the frame's.
    parent_long : length parent ≡ length frame
    unfolding sets_at
    parent_long = sym (pairs_long ◌∈◌ parent_known.filled) ∙ pairs_long ◌∈◌ (parent_known.inside parent_known.filled)

    -- Where U and L are apart some input of the case to split is undecided.
    parent_undecided : (greatest_upper state.cases ≡ state.best.lower → ⊥) → decided parent ≡ false
    unfolding sets_at
    parent_undecided apart =
        cases (decided parent)
        (λ d. absurd (apart (omega (
          arith,
          parent_known.tight d,
          next_upper state.cases not_empty,
          standing.best.reached,
          upper_above standing.best.chosen,
        ))))
        (λ d. d)

    -- The frame then has more patterns than the store has cases, which are more than the splits.
    more_patterns : decided parent ≡ false → splits + 2 ≤ choice_count frame
    unfolding sets_at stored_choices
    more_patterns d =
        let more = sum_more (λ x. choice_count x.sets) state.cases (λ x m. some_choice (standing.known m).filled)
        (next_member state.cases not_empty) (two_choices (probe parent) parent parent_known.filled d) in
        omega (arith, more, standing.total, standing.many)

    -- A split keeps what is known, where the case to split has an undecided input.
    module _ (not_decided : decided parent ≡ false) where
      abbrev input : ℕ
      input = choose parent

      undecided_there : undecided (get_or parent input empty) ≡ true
      undecided_there = chooses parent parent_long not_decided

      abbrev new : List Case
      new = children input parent

      abbrev make : Case → StoredCase
      make = made_under simulated bound (greatest_upper state.cases)

      abbrev made : List StoredCase
      made = map make new

      -- The best probe once the children are made.
      abbrev after : Best
      after = best_of simulated state.best new

      after_reached : BestKnown simulated frame after
      unfolding sets_at
      after_reached =
          best_reached simulated frame new state.best standing.best
          (λ child m. parent_known.inside (child_inside input parent m (child_filled input parent m parent_known.filled)))

      child_known : (child : Case) → Memᴰ child new
          → CaseKnown simulated frame after.lower (make child)
      unfolding sets_at made_under
      child_known child m = record {
        above = λ {pattern} choice. omega (
          arith,
          parent_known.above (child_inside input parent m choice),
          next_upper state.cases not_empty,
          evaluation_above pattern child choice,
        );
        inside = λ choice. parent_known.inside (child_inside input parent m choice);
        filled = child_filled input parent m parent_known.filled;
        tight = λ d. omega (arith, best_probed simulated new state.best m, evaluation_decided simulated bound child d);
      }

      made_known : {x : StoredCase} → Memᴰ x made → CaseKnown simulated frame after.lower x
      made_known m =
          let from = Memᴰ.of_map make new m in
          subst (CaseKnown simulated frame after.lower) from.2 (child_known from.0 from.1)

      kept_known : {x : StoredCase} → Memᴰ x state.cases → CaseKnown simulated frame after.lower x
      kept_known m =
          let k = standing.known m in
          record { above = k.above; inside = k.inside; filled = k.filled; tight = λ d. le_trans (k.tight d) (best_grown simulated new state.best) }

      split_covered : {pattern : List Excitation} → Choice pattern frame → Covered pattern (placed next made state.cases)
      unfolding sets_at made_under
      split_covered {pattern} choice =
          let from = covering pattern state.cases (standing.covered choice) in
          ⊎_elim (λ m. covered_by pattern (placed next made state.cases) from.0 m from.2)
          (λ e. let child = child_covers input parent pattern (undecided_inside parent input undecided_there) (subst (λ x. Choice pattern x.sets) e from.2) in
          covered_by pattern (placed next made state.cases) (make child.0)
          (placed_new next made state.cases (next_inside state.cases not_empty) (Memᴰ.map make child.1)) child.2)
          (placed_kept next made state.cases from.1)

      made_long : 2 ≤ length made
      made_long = omega (arith, length-map new make, children_long parent input undecided_there)

      split_standing : Standing simulated frame (suc splits) (split simulated bound choose state)
      unfolding split next_children sets_at
      split_standing = record {
        known = λ m. ⊎_elim made_known kept_known (placed_from next made state.cases m);
        covered = split_covered;
        best = after_reached;
        total = placed_choices next made state.cases (next_inside state.cases not_empty) (omega (arith, made_long))
            (made_choices simulated bound (greatest_upper state.cases) new ∙ children_sum parent input (undecided_inside parent input undecided_there))
            ∙ standing.total;
        many = omega (arith, placed_long next made state.cases (omega (arith, made_long)), made_long, standing.many);
      }

  module _ (ratio : ℕ) where
    -- A search that ends where it stands.
    ended : (budget splits : ℕ) (state : State) (outcome : Outcome) → outcome_at ratio state ≡ outcome → splits ≤ budget
        → (outcome ≡ Spent → splits ≡ budget) → Standing simulated frame splits state
        → Right simulated ratio budget frame (record { outcome = outcome; splits = splits; state = state })
    unfolding outcome_at sets_at
    ended budget splits state outcome e few spent standing = record {
      above = upper_above splits state standing;
      chosen = standing.best.chosen;
      reached = standing.best.reached;
      outcome = sym e;
      few = few;
      spent = spent;
      enough = λ s. omega (
        arith,
        spent s,
        more_patterns splits state standing
            (parent_undecided splits state standing (spent_apart ratio (greatest_upper state.cases) state.best.lower (e ∙ s))),
      );
      inside = λ k h choice. (standing.known (member_at state.cases k no_case h)).inside choice;
      covered = standing.covered;
    }

    from_right : (left splits : ℕ) (state : State) → Standing simulated frame splits state
        → Right simulated ratio (splits + left) frame (search_from simulated bound choose ratio left splits state)
    unfolding search_from outcome_at
    from_right zero splits state standing =
        ended (splits + 0) splits state (outcome_at ratio state) refl (omega arith) (λ e. omega arith) standing
    from_right (suc left) splits state standing =
        go (outcome_at ratio state) refl (from_right left (suc splits) (split simulated bound choose state))
      where
        after : SearchEnd
        after = search_from simulated bound choose ratio left (suc splits) (split simulated bound choose state)

        go : (outcome : Outcome) → outcome_at ratio state ≡ outcome
            → (Standing simulated frame (suc splits) (split simulated bound choose state) → Right simulated ratio (suc splits + left) frame after)
            → Right simulated ratio (splits + suc left) frame (search_from simulated bound choose ratio (suc left) splits state)
        go Exact e rest = rw (e, search_from) (ended (splits + suc left) splits state Exact e (omega arith) (λ s. absurd (exact_not_spent s)) standing)
        go Within e rest = rw (e, search_from) (ended (splits + suc left) splits state Within e (omega arith) (λ s. absurd (within_not_spent s)) standing)
        go Spent e rest =
            let not_decided = parent_undecided splits state standing (spent_apart ratio (greatest_upper state.cases) state.best.lower e) in
            let same : suc splits + left ≡ splits + suc left = omega arith in
            rw (e, search_from) (subst (λ budget. Right simulated ratio budget frame after) same (rest (split_standing splits state standing not_decided)))

pub search_right : (simulated : List Excitation → ℕ) (bound choose : Case → ℕ) (ratio budget : ℕ) (frame : Case) → UpperBound simulated bound
    → Chooses (length frame) choose → Choice (probe frame) frame → Right simulated ratio budget frame (search simulated bound choose ratio budget frame)
unfolding search
search_right simulated bound choose ratio budget frame bounds chooses filled =
    let right = from_right simulated bound choose frame bounds chooses ratio budget 0 (first_state simulated bound frame)
    (first_standing simulated bound choose frame bounds chooses filled) in
    subst (λ n. Right simulated ratio n frame (search simulated bound choose ratio budget frame)) (zero-add budget) right

-- The search's sheet is above the sheet of every pattern that its cases cover.
pub sheet_above : (simulated : List Excitation → ℕ → ℕ → ℕ) (enveloped : Case → ℕ → ℕ → ℕ)
    → ((pattern : List Excitation) (case : Case) → Choice pattern case → (c t : ℕ) → simulated pattern c t ≤ enveloped case c t)
    → (pattern : List Excitation) (cases : List StoredCase) → Covered pattern cases → (c t : ℕ)
    → simulated pattern c t ≤ cases_sheet simulated enveloped cases c t
unfolding cases_sheet
sheet_above simulated enveloped promise pattern cases covered c t =
    let case = sets_at cases covered.number in
    le_trans
    (evaluation_holds simulated enveloped (λ taken. simulated pattern c t ≤ taken c t) pattern case covered.choice (le_refl _)
    (promise pattern case covered.choice c t))
    (max_at (length cases) (λ k. evaluation_of simulated enveloped (sets_at cases k) c t) covered.number covered.inside)
