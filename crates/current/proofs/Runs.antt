-- The shapes of pulses, and words of changes to which the pulses of a run are added.
-- Assumes nothing.
use Rattle.std.proofs.Common.{◌≡◌, ℕ, zero, suc, ◌+◌, ◌-◌, ◌*◌, ◌%◌, ◌<◌, ◌≤◌, Bool, ltb, ◌⊎◌, List, length, get_or, sym, refl, ap, ◌∙◌, ap₂, inl, inr, zero-add, arith, ltb-false, ltb-true}
use native.Mathlib.Nat.{mod-add-mod}
use mathlib.Core.Logic.{⊎_elim}
use borrow.Table.Steps.{cases}
use Rattle.laws.specs.Below.{sum_below, sum_between}
use Rattle.laws.specs.Rewritten.{Rewritten}
use Rattle.laws.proofs.Rewritten.{rewritten_same, rewritten_append}
use Rattle.block.specs.Limits.{word_limit}
use Rattle.sheet.specs.Changes.{wrapped_sum, wrapped_difference, changes_of, restored}
use Rattle.sheet.proofs.Changes.{changes_restore, added_same, changes_added, changes_taken}
use Rattle.current.specs.Levels.{InRange}
use Rattle.current.specs.Pulse.{pulse, pulse_at}
use Rattle.current.specs.Runs.{Written, ShapeMade, Shaped, Changed, RunDrawn}
use Rattle.current.proofs.Pulses.{pulse_ends, pulse_at_most, pulse_at_ends, pulse_waits, at_start, same_age}

-- Words that are written one by one, as they may be: where that is one number each, they are rewritten by it.
pub written_by : {may : ℕ → ℕ → Type 0} (f : ℕ → ℕ) {from n : ℕ} {given after : List ℕ} → ((k v : ℕ) → k < n → may k v → v ≡ f k)
    → Written may from n given after → Rewritten f from n given after
written_by f {from} {n} {given} {after} is w = record {
  long = w.long;
  done = λ k h. is k (get_or after (from + k) 0) h (w.done k h);
  rest = w.rest;
}

-- The shape of a pulse: its rise, up to before the peak, and its fall, from the peak on.
pub shape_made : (P r f place : ℕ) {shapes risen after : List ℕ} → Rewritten (pulse P r f) place r shapes risen
    → Rewritten (λ k. pulse P r f (r + k)) (place + r) f risen after → Rewritten (pulse P r f) place (r + f) shapes after
shape_made P r f place rise fall =
    rewritten_append (pulse P r f) (λ k. pulse P r f (r + k)) (pulse P r f) place r (place + r) f _ _ _ refl (λ k l. refl) (λ k l. refl) rise fall

pub shaped : {P r f place : ℕ} {shapes after : List ℕ} → InRange P r f → place ≤ 264 → length after ≡ 528
    → ((k : ℕ) → k < 264 → get_or shapes (place + k) 0 ≡ 0) → Rewritten (pulse P r f) place (r + f) shapes after → Shaped P r f place after
shaped {P} {r} {f} {place} range low long zeros made = record {
  long = long;
  low = low;
  at = λ k h. cases (ltb k (r + f))
      (λ b. made.done k (ltb-true k (r + f) b))
      (λ b. let past = ltb-false k (r + f) b in made.rest (place + k) (inr (omega arith)) ∙ zeros k h ∙ sym (pulse_ends range k past));
}

-- What is made of a shape stays outside of its pulse.
pub shape_kept : {needed : Bool} {P r f place : ℕ} {shapes after : List ℕ} → ShapeMade needed P r f place shapes after → (i : ℕ)
    → (i < place) ⊎ (place + (r + f) ≤ i) → get_or after i 0 ≡ get_or shapes i 0
shape_kept {needed} {shapes = shapes} shape i outside =
    cases needed (λ b. (shape.made b).rest i outside) (λ b. ap (λ words. get_or words i 0) (shape.kept b))

-- Words that are changed one by one: two stretches, the second right after the first, are one.
module _ (may : ℕ → ℕ → ℕ → ℕ → Type 0) (shapes : List ℕ) (place at : ℕ) where
  pub changed_append : (n m : ℕ) {words between after : List ℕ} → Changed may shapes place at n words between
      → Changed may shapes (place + n) (at + n) m between after → (next : ℕ) → n + m ≡ next → Changed may shapes place at next words after
  changed_append n m {words} {between} {after} w v next sum = record {
    long = v.long ∙ w.long;
    done = λ k h. cases (ltb k n)
        (λ t. let b = ltb-true k n t in
        let same : get_or after (at + k) 0 ≡ get_or between (at + k) 0 = v.rest (at + k) (inl (omega arith)) in
        rw same (w.done k b))
        (λ t. let b = ltb-false k n t in
        let given : get_or between (at + n + (k - n)) 0 ≡ get_or words (at + n + (k - n)) 0 = w.rest (at + n + (k - n)) (inr (omega arith)) in
        let one : may (get_or words (at + n + (k - n)) 0) (get_or shapes (place + n + (k - n)) 0) (get_or shapes (place + n + (k - n) + 1) 0) (get_or after (at + n + (k - n)) 0)
        = rw (sym given) (v.done (k - n) (omega arith)) in
        let i : at + n + (k - n) ≡ at + k = omega arith in
        let l : place + n + (k - n) ≡ place + k = omega arith in
        rw (i, l) at one);
    rest = λ j o. ⊎_elim
        (λ b. v.rest j (inl (omega arith)) ∙ w.rest j (inl b))
        (λ b. v.rest j (inr (omega arith)) ∙ w.rest j (inr (omega arith)))
        o;
  }

-- The level of the shapes k ticks from a place on, and its change to the level of the next tick.

abbrev pub level_in : List ℕ → ℕ → ℕ → ℕ
level_in shapes place k = get_or shapes (place + k) 0

abbrev pub change_in : List ℕ → ℕ → ℕ → ℕ
change_in shapes place k = wrapped_difference (get_or shapes (place + k + 1) 0) (level_in shapes place k)

-- Words from a place on to which n numbers are added, or from which they are taken away, modulo 2 ^ 64.

abbrev SumsMade : (ℕ → ℕ) → ℕ → ℕ → List ℕ → List ℕ → Type 0
SumsMade number at n words = Rewritten (λ k. wrapped_sum (get_or words (at + k) 0) (number k)) at n words

abbrev DifferencesMade : (ℕ → ℕ) → ℕ → ℕ → List ℕ → List ℕ → Type 0
DifferencesMade number at n words = Rewritten (λ k. wrapped_difference (get_or words (at + k) 0) (number k)) at n words

-- Over the ticks up to a tick, a pulse sums to what the pulse that starts a tick later does, and its own level there. So the sum of the
-- pulses of a run at a tick is the difference of two such sums.
module _ (P r f : ℕ) where
  one_later : (x t : ℕ) → sum_below (suc t) (pulse_at P r f 0 x) ≡ sum_below (suc t) (pulse_at P r f 0 (suc x)) + pulse_at P r f 0 x t
  unfolding sum_below
  one_later x zero = let none = pulse_waits P r f 0 (suc x) 0 (omega arith) in omega arith
  one_later x (suc t) =
      let rest = one_later x t in
      let same = same_age P r f 0 (suc x) (suc t) 0 x t (omega arith) in
      omega arith

  run_sums : (first n t : ℕ)
      → sum_below (suc t) (pulse_at P r f 0 first) ≡ sum_below (suc t) (pulse_at P r f 0 (first + n)) + sum_below n (λ k. pulse_at P r f 0 (first + k) t)
  unfolding sum_below
  run_sums first zero t = let same : first + 0 ≡ first = omega arith in rw same (omega arith)
  run_sums first (suc n) t =
      let rest = run_sums first n t in
      let next : first + suc n ≡ suc (first + n) = omega arith in
      rw next (omega (arith, rest, one_later (first + n) t))

-- A run that is drawn.
module _ {P r f place contact first end n : ℕ} {shapes : List ℕ} (range : InRange P r f) (inside : contact < 16) (shape : Shaped P r f place shapes)
    (some : first < end) (in_time : end ≤ 256) (whole : r + f ≤ n) (few : n ≤ 256) where
  abbrev pulse_from : ℕ → ℕ → ℕ
  pulse_from x = pulse_at P r f 0 x

  pulse_fits : (x t : ℕ) → pulse_from x t < word_limit
  pulse_fits x t = let high = range.peak_high in let most = pulse_at_most range 0 x t in omega arith

  ended : (x t : ℕ) → x + n ≤ t → pulse_from x t ≡ 0
  ended x t h = pulse_at_ends range 0 x t (omega arith)

  level_at : (x k : ℕ) → k < 264 → level_in shapes place k ≡ pulse_from x (x + k)
  level_at x k h = shape.at k h ∙ sym (at_start P r f 0 x (x + k) k (omega arith))

  -- A pulse by itself: its changes are added.
  abbrev changes : ℕ → ℕ
  changes = changes_of (pulse_from first)

  no_change_at : (t : ℕ) → pulse_from first t ≡ 0 → pulse_from first (suc t) ≡ 0 → changes (suc t) ≡ 0
  unfolding changes_of wrapped_difference
  no_change_at t a b = rw (a, b) refl

  no_change_before : (t : ℕ) → t < suc first → changes t ≡ 0
  unfolding changes_of
  no_change_before zero h = pulse_waits P r f 0 first 0 (omega arith)
  no_change_before (suc t) h = no_change_at t (pulse_waits P r f 0 first t (omega arith)) (pulse_waits P r f 0 first (suc t) (omega arith))

  no_change_after : (t : ℕ) → suc first + n ≤ t → changes t ≡ 0
  no_change_after zero h = absurd (omega arith)
  no_change_after (suc t) h = no_change_at t (ended first t (omega arith)) (ended first (suc t) (omega arith))

  change_at : (k : ℕ) → k < n → change_in shapes place k ≡ changes (suc first + k)
  unfolding changes_of
  change_at k h =
      let next : first + (k + 1) ≡ suc (first + k) = omega arith in
      let now : suc first + k ≡ suc (first + k) = omega arith in
      let follows : place + k + 1 ≡ place + (k + 1) = omega arith in
      ap₂ wrapped_difference (ap (λ j. get_or shapes j 0) follows ∙ level_at first (k + 1) (omega arith) ∙ ap (pulse_from first) next)
      (level_at first k (omega arith))
      ∙ ap changes (sym now)

  pub pulse_drawn : {words after : List ℕ} → end ≡ first + 1 → SumsMade (change_in shapes place) (512 * contact + end) n words after
      → RunDrawn P r f contact first end words after
  unfolding sum_between sum_below
  pulse_drawn {words} {after} one made =
      let at : end ≡ suc first = omega arith in
      let count : suc first - first ≡ 1 = omega arith in
      let start : first + 0 ≡ first = omega arith in
      let here : SumsMade (change_in shapes place) (512 * contact + suc first) n words after = rw at at made in
      added_same (restored changes) _
      (λ t h. changes_restore (pulse_from first) (pulse_fits first) t ∙ rw (at, count, start) (sym (zero-add (pulse_from first t))))
      (changes_added contact (suc first) n changes inside (omega arith) no_change_before (λ t h l. no_change_after t h)
      (rewritten_same _ _ _ n _ _ (λ k l. ap (wrapped_sum (get_or words (512 * contact + suc first + k) 0)) (change_at k l)) here))

  -- A run of more ticks: the pulse is added from the first on, and taken away from the tick after the last on.
  rest_of_run : (t : ℕ) → restored (pulse_from first) t ≡ wrapped_sum (restored (pulse_from end) t) (sum_between first end (λ x. pulse_from x t))
  unfolding restored wrapped_sum sum_between
  rest_of_run t =
      let last : first + (end - first) ≡ end = omega arith in
      let whole : sum_below (suc t) (pulse_from first) ≡ sum_below (suc t) (pulse_from end) + sum_below (end - first) (λ k. pulse_from (first + k) t) =
      run_sums P r f first (end - first) t ∙ ap (λ x. sum_below (suc t) (pulse_from x) + sum_below (end - first) (λ k. pulse_from (first + k) t)) last in
      ap (λ x. x % word_limit) whole ∙ sym (mod-add-mod (sum_below (suc t) (pulse_from end)) word_limit (sum_below (end - first) (λ k. pulse_from (first + k) t)))

  pub run_drawn : {words between after : List ℕ} → SumsMade (level_in shapes place) (512 * contact + first) n words between
      → DifferencesMade (level_in shapes place) (512 * contact + end) n between after → RunDrawn P r f contact first end words after
  run_drawn {words} {between} added taken =
      changes_taken contact end n (pulse_from end) inside (omega arith) (λ t h. pulse_waits P r f 0 end t (omega arith)) (λ t h l. ended end t h)
      (pulse_fits end) (restored (pulse_from first)) _ (λ t h. rest_of_run t)
      (changes_added contact first n (pulse_from first) inside (omega arith) (λ t h. pulse_waits P r f 0 first t (omega arith)) (λ t h l. ended first t h)
      (rewritten_same _ _ _ n _ _ (λ k l. ap (wrapped_sum (get_or words (512 * contact + first + k) 0)) (level_at first k (omega arith))) added))
      (rewritten_same _ _ _ n _ _ (λ k l. ap (wrapped_difference (get_or between (512 * contact + end + k) 0)) (level_at end k (omega arith))) taken)
