-- Two choices that agree on the cases of a frame give the same search; so the list by cone gives the search of document 01.
-- Assumes nothing.
use Prim.Native.Nat.{ℕ, zero, suc, ◌≤◌, ◌<◌}
use mathlib.Core.List.Memᴰ
use mathlib.Core.List.{List, [], ◌∷◌, map, Memᴰ}
use mathlib.Core.Logic.{⊎_elim}
use mathlib.Core.Path.{◌≡◌, refl, ap, sym, subst, ◌∙◌}
use native.Mathlib.Nat.{le_trans}
use native.Mathlib.Omega.{arith}
use lib.ListN.{length, get_or, set, length-set, length-append}
use Rattle.laws.specs.Below.{argmax}
use Rattle.laws.proofs.Below.{argmax_same}
use Rattle.laws.proofs.Turn.{list_at}
use Rattle.excitation.specs.UncertaintySet.{empty, single}
use Rattle.excitation.specs.declared.Excitation.{Excitation}
use Rattle.block.specs.Block.{input_count, cone_size, frame}
use Rattle.block.specs.Record.{File}
use Rattle.block.proofs.Frames.{frame_long}
use Rattle.cases.specs.Case.{Case, members_below, children_below, children}
use Rattle.cases.specs.Choice.{first_undecided, cone_sizes, rank_of, rank, chosen_input}
use Rattle.cases.specs.Search.{StoredCase, sets_at, greatest_upper, next_split, placed, State, best_of, made_under, first_state, next_children, split, outcome_at, search_from, search}
use Rattle.operation.specs.declared.Outcome.{Outcome}
use Rattle.operation.specs.declared.Outcome.TheVariants.{Exact, Within, Spent}
use Rattle.cases.specs.SplitOrder.{cone_order}
use Rattle.cases.proofs.Splits.{next_member, placed_from}
use Rattle.cases.proofs.WidestCone.{widest}

child_long : (input : ℕ) (case : Case) {child : Case} → Memᴰ child (children input case) → length child ≡ length case
unfolding children_below
child_long input case m =
    let made = Memᴰ.of_map (λ e. set case input (single e)) (members_below 4 (get_or case input empty)) m in
    subst (λ child. length child ≡ length case) made.2 (length-set case input (single made.0))

-- Children in their places leave no fewer cases.
placed_more : (k : ℕ) (new cases : List StoredCase) → length cases ≤ length (placed k new cases)
unfolding placed
placed_more k [] cases = omega arith
placed_more k (x ∷ rest) cases = omega (arith, length-append (set cases k x) rest, length-set cases k x)

module _ (simulated : List Excitation → ℕ) (bound choose other : Case → ℕ) (inputs : ℕ) (alike : (case : Case) → length case ≡ inputs → choose case ≡ other case) where
  -- There is a case, and each has as many inputs as the frame.
  record Long (state : State) : Type 0 where
    some : 1 ≤ length state.cases
    each : {x : StoredCase} → Memᴰ x state.cases → length x.sets ≡ inputs

  module _ (state : State) (long : Long state) where
    abbrev parent : Case
    parent = sets_at state.cases (next_split state.cases)

    parent_long : length parent ≡ inputs
    unfolding sets_at
    parent_long = long.each (next_member state.cases long.some)

    split_same : split simulated bound choose state ≡ split simulated bound other state
    unfolding split next_children
    split_same =
        ap (λ input. record {
          cases = placed (next_split state.cases) (map (made_under simulated bound (greatest_upper state.cases)) (children input parent)) state.cases;
          best = best_of simulated state.best (children input parent);
        })
        (alike parent parent_long)

    split_long : Long (split simulated bound choose state)
    unfolding split next_children made_under
    split_long =
        let make = made_under simulated bound (greatest_upper state.cases) in
        let new = children (choose parent) parent in
        record {
          some = le_trans long.some (placed_more (next_split state.cases) (map make new) state.cases);
          each = λ {x} m. ⊎_elim
              (λ made. let from = Memᴰ.of_map make new made in
              subst (λ (x : StoredCase). length x.sets ≡ inputs) from.2 (child_long (choose parent) parent from.1 ∙ parent_long))
              (λ before. long.each before)
              (placed_from (next_split state.cases) (map make new) state.cases m);
        }

  module _ (ratio : ℕ) where
    from_same : (left splits : ℕ) (state : State) → Long state
        → search_from simulated bound choose ratio left splits state ≡ search_from simulated bound other ratio left splits state
    unfolding search_from
    from_same zero splits state long = refl
    from_same (suc left) splits state long =
        go (outcome_at ratio state) refl (from_same left (suc splits) (split simulated bound choose state) (split_long state long))
      where
        go : (outcome : Outcome) → outcome_at ratio state ≡ outcome
            → search_from simulated bound choose ratio left (suc splits) (split simulated bound choose state)
            ≡ search_from simulated bound other ratio left (suc splits) (split simulated bound choose state)
            → search_from simulated bound choose ratio (suc left) splits state ≡ search_from simulated bound other ratio (suc left) splits state
        go Exact e rest = rw (e, search_from) refl
        go Within e rest = rw (e, search_from) refl
        go Spent e rest = rw (e, search_from) (rest ∙ ap (search_from simulated bound other ratio left (suc splits)) (split_same state long))

    pub search_alike : (budget : ℕ) (frame : Case) → length frame ≡ inputs
        → search simulated bound choose ratio budget frame ≡ search simulated bound other ratio budget frame
    unfolding search first_state
    search_alike budget frame long =
        from_same budget 0 (first_state simulated bound frame) (record {
          some = omega arith;
          each = λ m. ap (λ (x : StoredCase). length x.sets) (Memᴰ.eq_of_singleton m) ∙ long;
        })

cones_at : (file : File) (net : ℕ) → net < input_count file → get_or (cone_sizes file) net 0 ≡ cone_size file net
unfolding cone_sizes
cones_at file net h = list_at (input_count file) (cone_size file) net 0 h

-- The list by cone splits where document 01 does.
pub cone_chooses : (file : File) (case : Case) → length case ≡ input_count file → first_undecided (cone_order file) case ≡ chosen_input (cone_sizes file) case
unfolding cone_order chosen_input rank
cone_chooses file case long =
    widest (cone_size file) case (input_count file)
    ∙ argmax_same (input_count file) _ _ (λ net h. ap (rank_of (get_or case net empty)) (sym (cones_at file net h)))
    ∙ ap (λ n. argmax n (rank (cone_sizes file) case)) (sym long)

-- So the search by it is the search of document 01, word for word.
pub cone_search : (simulated : List Excitation → ℕ) (bound : Case → ℕ) (ratio budget : ℕ) (file : File)
    → search simulated bound (first_undecided (cone_order file)) ratio budget (frame file) ≡ search simulated bound (chosen_input (cone_sizes file)) ratio budget (frame file)
cone_search simulated bound ratio budget file =
    search_alike simulated bound _ _ (input_count file) (cone_chooses file) ratio budget (frame file) (frame_long file)
