-- Laws of a split: what it has done once some of the children are made, one excitation more, and the state at the end.
-- Assumes nothing.
use Prim.Native.Nat.{ℕ, ◌+◌, ◌*◌, ◌≤◌, ◌<◌, min, max}
use mathlib.Core.Bool.{Bool, true, false}
use mathlib.Core.List.{List, [], ◌∷◌, ◌++◌, map}
use mathlib.Core.Path.{◌≡◌, refl, ap, sym, ◌∙◌}
use native.Mathlib.Omega.{arith}
use lib.ListN.{length, get_or, set, take, drop, length-set}
use borrow.Table.Steps.{cases}
use Rattle.excitation.specs.Excitation.{excitation_of}
use Rattle.excitation.specs.UncertaintySet.{member, empty, code, decode, single, sets_in}
use Rattle.excitation.proofs.Codes.{set_at}
use Rattle.block.specs.Limits.{drop_limit}
use Rattle.cases.specs.Case.{Case, probe, members_below, children_below}
use Rattle.cases.specs.Choice.{first_undecided}
use Rattle.cases.specs.Probes.{ProbesCovered}
use Rattle.cases.specs.Records.{cases_in, HasCase, SetCodes, child_codes}
use Rattle.cases.specs.Search.{Best, sets_at, greatest_upper, next_split, placed, best_of, made_under, next_children, split}
use Rattle.cases.proofs.Codes.{probe_read}
use Rattle.cases.proofs.Records.{case_of, sets_copied, cases_long, sets_at_lem}
use Rattle.cases.proofs.Right.{best_grown}
use Rattle.evaluation.specs.declared.Setting.{Setting}
use Rattle.bounds.specs.Bounds.{pattern_drop, case_drop, probe_drop, CaseMade, own_upper}
use Rattle.search.specs.Steps.{ChildMade, Running, CaseToSplit, CaseSplit, best_in, state_in}
use Rattle.search.specs.declared.split.Step.{Step}
use Rattle.cases.proofs.Children.{child_coded, child_sets, children_more, children_same}
use Rattle.search.proofs.Stored.{CasesStored, BestStored, best_more, best_next}
use Rattle.search.proofs.Places.{Places, places_more, places_few, places_next, places_skip, places_add, stored_next}

-- What a split has done once the children of the excitations below e are made.
pub record Splitting (setting : Setting) (parent : List ℕ) (input k cap n threshold : ℕ) (store pattern : List ℕ)
    (e count next threshold' : ℕ) (store' pattern' : List ℕ) : Type 0 where
  pub stored : CasesStored setting.inputs store
      (placed k (map (made_under (pattern_drop setting) (case_drop setting) cap) (children_below e input (sets_in setting.inputs parent))) (cases_in setting.inputs store n))
      count store'
  pub best : BestStored setting.inputs pattern
      (best_of (pattern_drop setting) (best_in setting.inputs threshold pattern) (children_below e input (sets_in setting.inputs parent))) threshold' pattern'
  pub places : Places k n e (children_below e input (sets_in setting.inputs parent)) count next

-- Nothing is made yet.
pub splitting_begun : {setting : Setting} {parent : List ℕ} {input k cap n threshold : ℕ} {store pattern : List ℕ}
    → Running setting.inputs n threshold store pattern → Splitting setting parent input k cap n threshold store pattern 0 n k threshold store pattern
unfolding children_below members_below placed best_of Places
splitting_begun running = record {
  stored = record { is = refl; has = running.cases; long = refl; past = λ j h. refl };
  best = record {
    is = refl;
    threshold_low = running.threshold_low;
    threshold_high = running.threshold_high;
    long = refl;
    low = running.pattern_low;
    past = λ j h. refl;
  };
  places = (refl, refl);
}

-- The parent's probe drops less than the threshold, which does not fall while the children are made.
pub parent_below : {setting : Setting} {parent : List ℕ} {input k cap n threshold : ℕ} {store pattern : List ℕ}
    {e count next threshold' : ℕ} {store' pattern' : List ℕ} → Running setting.inputs n threshold store pattern → k < n
    → ProbesCovered (pattern_drop setting) (state_in setting.inputs n threshold store pattern)
    → parent ≡ take 64 (drop (72 * k) store)
    → Splitting setting parent input k cap n threshold store pattern e count next threshold' store' pattern'
    → probe_drop setting parent < threshold'
unfolding state_in best_in
parent_below {setting} {parent} {input} {k} {cap} {n} {threshold} {store} {pattern} {e} running inside covered copied now =
    let inputs = setting.inputs in
    let simulated = pattern_drop setting in
    let is : sets_in inputs parent ≡ sets_at (cases_in inputs store n) k = sets_copied inputs setting.accepted.few_inputs store k parent copied ∙ sym (sets_at_lem inputs store n k inside) in
    let drop : probe_drop setting parent ≡ simulated (probe (sets_at (cases_in inputs store n) k)) = ap (λ sets. simulated (probe sets)) is in
    let lower = ap (λ (best : Best). best.lower) now.best.is in
    omega (
      arith,
      drop,
      covered.covers k (omega (arith, cases_long inputs store n)),
      best_grown simulated (children_below e input (sets_in inputs parent)) (best_in inputs threshold pattern),
      lower,
      running.threshold_low,
      now.best.threshold_low,
    )

-- One excitation more.

module _ {setting : Setting} {parent : List ℕ} {input k cap n threshold : ℕ} {store pattern : List ℕ}
    {e count next threshold' : ℕ} {store' pattern' : List ℕ} (inside : k < n) (turn : e < 4) (numbered : n + 3 ≤ 30001) (room : 72 * (n + 3) ≤ length store)
    (now : Splitting setting parent input k cap n threshold store pattern e count next threshold' store' pattern') where
  abbrev case : Case
  case = sets_in setting.inputs parent

  -- There is room for a child at the next place.
  pub child_room : HasCase store' next
  child_room =
      let below = places_next k n e count next inside (children_below e input case) turn now.places in
      record { whole = omega (arith, now.stored.long); numbered = omega arith }

  module _ (long : length parent ≡ 64) (coded : SetCodes setting.inputs parent) (chosen : input < setting.inputs) where
    tested : {b : Bool} → member (excitation_of e) (decode (get_or parent input 0)) ≡ b → member (excitation_of e) (get_or case input empty) ≡ b
    tested h = ap (member (excitation_of e)) (set_at setting.inputs parent input empty chosen) ∙ h

    skipped : member (excitation_of e) (decode (get_or parent input 0)) ≡ false
        → Splitting setting parent input k cap n threshold store pattern (e + 1) count next threshold' store' pattern'
    skipped h =
        let same = children_same e input case (tested h) in
        record {
          stored = rw same now.stored;
          best = rw same now.best;
          places = rw same (places_skip k n e count next inside (children_below e input case) now.places);
        }

    made_is : case_of setting.inputs (child_codes parent input (excitation_of e)) (min cap (own_upper setting.file.now setting.hops setting.table.now (sets_in setting.inputs (child_codes parent input (excitation_of e)))))
        ≡ made_under (pattern_drop setting) (case_drop setting) cap (set case input (single (excitation_of e)))
    unfolding own_upper made_under
    made_is = ap (made_under (pattern_drop setting) (case_drop setting) cap) (child_sets setting.inputs setting.accepted.few_inputs parent long input chosen (excitation_of e))

    added : {threshold'' : ℕ} {store'' pattern'' : List ℕ} → member (excitation_of e) (decode (get_or parent input 0)) ≡ true
        → CaseMade setting (child_codes parent input (excitation_of e)) cap threshold' next store' pattern' threshold'' store'' pattern''
        → Splitting setting parent input k cap n threshold store pattern (e + 1) (max (next + 1) count) (max (next + 1) count) threshold'' store'' pattern''
    added h made =
        let simulated = pattern_drop setting in
        let make = made_under simulated (case_drop setting) cap in
        let codes = child_codes parent input (excitation_of e) in
        let child = set case input (single (excitation_of e)) in
        let new = children_below e input case in
        let sets : sets_in setting.inputs codes ≡ child = child_sets setting.inputs setting.accepted.few_inputs parent long input chosen (excitation_of e) in
        let more : children_below (e + 1) input case ≡ new ++ (child ∷ []) = children_more e input case (tested h) in
        let low : min cap (own_upper setting.file.now setting.hops setting.table.now (sets_in setting.inputs codes)) < drop_limit = omega (arith, made.upper_low) in
        record {
          stored = rw more
              (stored_next setting.accepted.few_inputs (length-set parent input (code (single (excitation_of e))) ∙ long)
              (child_coded setting.inputs setting.accepted.few_inputs parent long input chosen (excitation_of e) coded) low next made.stored
              make child made_is k n e count inside turn numbered store room (cases_in setting.inputs store n) new now.places now.stored);
          best = rw (more, best_more simulated (best_in setting.inputs threshold pattern) new child)
              (rw sets at
              (best_next simulated (sets_in setting.inputs codes) made.drop_low made.kept
              (λ m. let q = made.reached m in (q.0, probe_read setting.inputs codes q.1, q.1))
              now.best));
          places = rw more (places_add k n e count next inside new child now.places);
        }

    pub splitting_next : {after : Step} {store'' pattern'' : List ℕ}
        → ChildMade setting parent input (excitation_of e) cap (record { cases = count; next = record { 0 = next }; threshold = threshold' }) store' pattern' after store'' pattern''
        → Splitting setting parent input k cap n threshold store pattern (e + 1) after.cases after.next.0 after.threshold store'' pattern''
    splitting_next child =
        cases (member (excitation_of e) (decode (get_or parent input 0)))
        (λ t. let q = child.counted t in rw (q.1, q.0) (added t (child.made t)))
        (λ t. let q = child.skipped t in rw (q.0, q.1, q.2) (skipped t))

-- A split, once the children of all four excitations are made.
pub case_split : (order : List ℕ) {setting : Setting} {parent : List ℕ} {input k cap n threshold : ℕ} {store pattern : List ℕ}
    {e count next threshold' : ℕ} {store' pattern' : List ℕ} → Running setting.inputs n threshold store pattern
    → CaseToSplit setting.inputs n store k cap → parent ≡ take 64 (drop (72 * k) store)
    → input ≡ first_undecided order (sets_in setting.inputs parent) → e ≡ 4
    → Splitting setting parent input k cap n threshold store pattern e count next threshold' store' pattern'
    → CaseSplit setting order n threshold store pattern count threshold' store' pattern'
unfolding split next_children state_in
case_split order {setting} {parent} {input} {k} {cap} {n} {threshold} {store} {pattern} {e} {count} {next} {threshold'} {store'} {pattern'} running to copied chosen end now =
    let simulated = pattern_drop setting in
    let bound = case_drop setting in
    let xs = cases_in setting.inputs store n in
    let case = sets_in setting.inputs parent in
    let at = next_split xs in
    let sets = sets_at xs at in
    let split_is : case ≡ sets =
    sets_copied setting.inputs setting.accepted.few_inputs store k parent copied ∙ sym (sets_at_lem setting.inputs store n k to.inside) ∙ ap (sets_at xs) to.place in
    let input_is : input ≡ first_undecided order sets = chosen ∙ ap (first_undecided order) split_is in
    let new_is : children_below e input case ≡ children_below 4 (first_undecided order sets) sets =
    ap (λ m. children_below m input case) end ∙ ap (λ i. children_below 4 i case) input_is ∙ ap (children_below 4 (first_undecided order sets)) split_is in
    let cases_are : cases_in setting.inputs store' count ≡ placed at (map (made_under simulated bound (greatest_upper xs)) (children_below 4 (first_undecided order sets) sets)) xs =
    now.stored.is
    ∙ ap (λ j. placed j (map (made_under simulated bound cap) (children_below e input case)) xs) to.place
    ∙ ap (λ u. placed at (map (made_under simulated bound u) (children_below e input case)) xs) to.greatest
    ∙ ap (λ new. placed at (map (made_under simulated bound (greatest_upper xs)) new) xs) new_is in
    let best_is : best_in setting.inputs threshold' pattern' ≡ best_of simulated (best_in setting.inputs threshold pattern) (children_below 4 (first_undecided order sets) sets) =
    now.best.is ∙ ap (best_of simulated (best_in setting.inputs threshold pattern)) new_is in
    let more = places_more k n e count next to.inside (children_below e input case) now.places in
    record {
      state = λ i. record { cases = cases_are i; best = best_is i };
      running = record {
        cases = now.stored.has;
        some = omega (arith, running.some);
        threshold_low = now.best.threshold_low;
        threshold_high = now.best.threshold_high;
        pattern_long = now.best.long ∙ running.pattern_long;
        pattern_low = now.best.low;
      };
      more = more;
      few = places_few k n e count next to.inside (children_below e input case) (omega arith) now.places;
      past = record {
        store_long = now.stored.long;
        store_past = now.stored.past;
        pattern_long = now.best.long;
        pattern_past = now.best.past;
      };
    }
