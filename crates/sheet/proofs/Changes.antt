-- Laws of rows of changes: that they give the currents that were added, and that the code restores them.
-- Assumes nothing.
use Rattle.std.proofs.Common.{◌≡◌, ℕ, zero, suc, ◌+◌, ◌-◌, ◌*◌, ◌%◌, ◌<◌, ◌≤◌, cond, eqb, ltb, List, length, get_or, sym, refl, ap, ◌∙◌, inl, inr, ⊎_elim, arith, ltb-false, ltb-true, eqb-true}
use native.Mathlib.Nat.{add-mod, mod-add-mod}
use borrow.Author.Tests.{eqb-false}
use borrow.Table.Steps.{cases}
use Rattle.laws.specs.Below.{sum_below}
use Rattle.laws.specs.Rewritten.{Rewritten}
use Rattle.laws.proofs.Below.{sum_next, sum_same, sum_within}
use Rattle.block.specs.Limits.{word_limit}
use Rattle.sheet.specs.Changes.{wrapped_sum, wrapped_difference, changes_of, restored, restored_in, Added, RowsRestored}
use Rattle.sheet.specs.Sheet.{sheet_in}
use Rattle.sheet.specs.Words.{Cleared}

-- Sums and differences that wrap around.

pub wrapped_small : (a b : ℕ) → a + b < word_limit → wrapped_sum a b ≡ a + b
unfolding wrapped_sum
wrapped_small a b h = omega arith

-- What the code's subtraction gives.
pub difference_is : (a b r : ℕ) → b < word_limit → r < word_limit → (r + b) % word_limit ≡ a → r ≡ wrapped_difference a b
unfolding wrapped_difference
difference_is a b r h l e = omega arith

sum_assoc : (a b c : ℕ) → wrapped_sum (wrapped_sum a b) c ≡ wrapped_sum a (b + c)
unfolding wrapped_sum
sum_assoc a b c = omega arith

sum_none : (a : ℕ) → a < word_limit → wrapped_sum a 0 ≡ a
unfolding wrapped_sum
sum_none a h = omega arith

sum_cancels : (x w d g : ℕ) → x < word_limit → wrapped_sum x d ≡ wrapped_sum w (wrapped_sum d g) → x ≡ wrapped_sum w g
unfolding wrapped_sum
sum_cancels x w d g h e = omega arith

-- Words that are the sums of two others, modulo 2 ^ 64, sum up to the sum of their sums.

congruent_add : (A X a x : ℕ) → A % word_limit ≡ X % word_limit → a % word_limit ≡ x % word_limit → (A + a) % word_limit ≡ (X + x) % word_limit
congruent_add A X a x e d = omega arith

sums_congruent : (n : ℕ) (a b d : ℕ → ℕ) → ((k : ℕ) → k < n → a k % word_limit ≡ (b k + d k) % word_limit)
    → sum_below n a % word_limit ≡ (sum_below n b + sum_below n d) % word_limit
unfolding sum_below
sums_congruent zero a b d each = refl
sums_congruent (suc n) a b d each =
    congruent_add (sum_below n a) (sum_below n b + sum_below n d) (a n) (b n + d n) (sums_congruent n a b d (λ k h. each k (omega arith))) (each n (omega arith))
    ∙ ap (λ x. x % word_limit) (let e : sum_below n b + sum_below n d + (b n + d n) ≡ sum_below n b + b n + (sum_below n d + d n) = omega arith in e)

restored_sum : (a b d : ℕ → ℕ) (t : ℕ) → ((k : ℕ) → k < suc t → a k % word_limit ≡ (b k + d k) % word_limit)
    → restored a t ≡ wrapped_sum (restored b t) (restored d t)
unfolding restored wrapped_sum
restored_sum a b d t each = sums_congruent (suc t) a b d each ∙ add-mod (sum_below (suc t) b) (sum_below (suc t) d) word_limit

restored_fits : (changes : ℕ → ℕ) (t : ℕ) → restored changes t < word_limit
unfolding restored
restored_fits changes t = omega arith

restored_same : (f g : ℕ → ℕ) (t : ℕ) → ((k : ℕ) → k < suc t → f k ≡ g k) → restored f t ≡ restored g t
unfolding restored
restored_same f g t same = ap (λ x. x % word_limit) (sum_same (suc t) f g same)

restored_none : (t : ℕ) → restored (λ k. 0) t ≡ 0
unfolding restored
restored_none t = let none = sum_within (suc t) (λ k. 0) 0 (λ k h. omega arith) in omega arith

-- The changes of a row of words restore it.
pub changes_restore : (current : ℕ → ℕ) → ((t : ℕ) → current t < word_limit) → (t : ℕ) → restored (changes_of current) t ≡ current t
unfolding restored changes_of wrapped_difference sum_below
changes_restore current fits zero = let low = fits 0 in omega arith
changes_restore current fits (suc t) =
    let rest = changes_restore current fits t in
    let low = fits t in
    let next = fits (suc t) in
    omega arith

-- A word of changes is 0 where the currents of its tick and of the tick before are the same.
pub no_change : (changes : ℕ → ℕ) (t : ℕ) → changes (suc t) < word_limit → restored changes (suc t) ≡ restored changes t → changes (suc t) ≡ 0
unfolding restored sum_below
no_change changes t fits e = omega arith

-- Cleared words give no current.
pub cleared_restored : {words : List ℕ} → Cleared words → (c t : ℕ) → restored_in words c t ≡ 0
cleared_restored {words} none c t = restored_same (sheet_in words c) (λ k. 0) t (λ k h. none.at (512 * c + k)) ∙ restored_none t

-- Currents that are added one after the other, and none.

pub added_none : {contact : ℕ} {words : List ℕ} → Added contact (λ t. 0) words words
added_none {contact} {words} = record {
  long = refl;
  at = λ c t h l. sym (cases (eqb contact c)
      (λ b. rw b (sum_none _ (restored_fits (sheet_in words c) t)))
      (λ b. rw b (sum_none _ (restored_fits (sheet_in words c) t))));
}

pub added_same : {contact : ℕ} (f g : ℕ → ℕ) {words after : List ℕ} → ((t : ℕ) → t < 512 → f t ≡ g t) → Added contact f words after
    → Added contact g words after
added_same {contact} f g {words} same added = record {
  long = added.long;
  at = λ c t h l. added.at c t h l ∙ ap (λ x. wrapped_sum (restored_in words c t) (cond (eqb contact c) x 0)) (same t l);
}

pub added_both : {contact : ℕ} (f g : ℕ → ℕ) {words between after : List ℕ} → Added contact f words between → Added contact g between after
    → Added contact (λ t. f t + g t) words after
added_both {contact} f g {words} first second = record {
  long = second.long ∙ first.long;
  at = λ c t h l. second.at c t h l ∙ ap (λ x. wrapped_sum x (cond (eqb contact c) (g t) 0)) (first.at c t h l)
      ∙ sum_assoc (restored_in words c t) (cond (eqb contact c) (f t) 0) (cond (eqb contact c) (g t) 0)
      ∙ ap (wrapped_sum (restored_in words c t)) (cases (eqb contact c) (λ b. rw b refl) (λ b. rw b refl));
}

-- What a rule makes of each word of a sheet where it rewrites a stretch of a contact's row: `change` is 0 outside of the stretch.
module _ (contact start n : ℕ) (change : ℕ → ℕ) (inside : contact < 16) (room : start + n ≤ 512) (early : (t : ℕ) → t < start → change t ≡ 0)
    (late : (t : ℕ) → start + n ≤ t → t < 512 → change t ≡ 0) where
  abbrev Changed : (ℕ → ℕ → ℕ) → List ℕ → List ℕ → Type 0
  Changed rule words = Rewritten (λ k. rule (get_or words (512 * contact + start + k) 0) (change (start + k))) (512 * contact + start) n words

  -- Of each word, of what it is changed by and of what it becomes.
  module _ (R : ℕ → ℕ → ℕ → Type 0) (none : (word : ℕ) → R word 0 word) (rule : ℕ → ℕ → ℕ) (ruled : (word t : ℕ) → R word (change t) (rule word (change t)))
      {words after : List ℕ} (changed : Changed rule words after) where
    in_stretch : (t : ℕ) → start ≤ t → t < start + n → R (sheet_in words contact t) (change t) (sheet_in after contact t)
    in_stretch t low high =
        let place : 512 * contact + start + (t - start) ≡ 512 * contact + t = omega arith in
        let tick : start + (t - start) ≡ t = omega arith in
        let is : sheet_in after contact t ≡ rule (sheet_in words contact t) (change t) =
        sym (ap (λ i. get_or after i 0) place) ∙ changed.done (t - start) (omega arith)
        ∙ ap (λ i. rule (get_or words i 0) (change (start + (t - start)))) place ∙ ap (λ k. rule (sheet_in words contact t) (change k)) tick in
        rw is (ruled (sheet_in words contact t) t)

    in_row : (t : ℕ) → t < 512 → R (sheet_in words contact t) (change t) (sheet_in after contact t)
    in_row t h =
        cases (ltb t start)
        (λ b. let before = ltb-true t start b in
        rw (early t before, changed.rest (512 * contact + t) (inl (omega arith))) (none _))
        (λ b. let low = ltb-false t start b in
        cases (ltb t (start + n))
        (λ u. in_stretch t low (ltb-true t (start + n) u))
        (λ u. let past = ltb-false t (start + n) u in
        rw (late t past h, changed.rest (512 * contact + t) (inr (omega arith))) (none _)))

    in_other : (c t : ℕ) → t < 512 → (contact ≡ c → ⊥) → R (sheet_in words c t) 0 (sheet_in after c t)
    in_other c t h other =
        cases (ltb c contact)
        (λ b. let low = ltb-true c contact b in rw (changed.rest (512 * c + t) (inl (omega arith))) (none _))
        (λ b. let high = ltb-false c contact b in rw (changed.rest (512 * c + t) (inr (omega arith))) (none _))

    in_sheet : (c t : ℕ) → t < 512 → R (sheet_in words c t) (cond (eqb contact c) (change t) 0) (sheet_in after c t)
    in_sheet c t h =
        cases (eqb contact c)
        (λ b. let e = eqb-true contact c b in rw (b, sym e) (in_row t h))
        (λ b. rw b (in_other c t h (eqb-false contact c b)))

  -- What they give then: the sum with what the changes give, or, where these were taken away, what gives that sum.

  restored_own : (c t : ℕ) → restored (λ k. cond (eqb contact c) (change k) 0) t ≡ cond (eqb contact c) (restored change t) 0
  restored_own c t = cases (eqb contact c) (λ b. rw b refl) (λ b. rw b (restored_none t))

  sum_restored : {words after : List ℕ} → Changed wrapped_sum words after → (c t : ℕ) → t < 512
      → restored_in after c t ≡ wrapped_sum (restored_in words c t) (cond (eqb contact c) (restored change t) 0)
  unfolding wrapped_sum
  sum_restored {words} {after} changed c t h =
      restored_sum (sheet_in after c) (sheet_in words c) (λ k. cond (eqb contact c) (change k) 0) t
      (λ k l. in_sheet (λ w x a. a % word_limit ≡ (w + x) % word_limit) (λ w. omega arith) wrapped_sum (λ w k. omega arith) changed c k (omega arith))
      ∙ ap (λ x. (restored_in words c t + x) % word_limit) (restored_own c t)

  difference_restored : ((t : ℕ) → change t < word_limit) → {words after : List ℕ} → Changed wrapped_difference words after → (c t : ℕ) → t < 512
      → restored_in words c t ≡ wrapped_sum (restored_in after c t) (cond (eqb contact c) (restored change t) 0)
  unfolding wrapped_sum wrapped_difference
  difference_restored low {words} {after} changed c t h =
      restored_sum (sheet_in words c) (sheet_in after c) (λ k. cond (eqb contact c) (change k) 0) t
      (λ k l. in_sheet (λ w x a. w % word_limit ≡ (a + x) % word_limit) (λ w. omega arith) wrapped_difference
      (λ w k. let fits = low k in omega arith) changed c k (omega arith))
      ∙ ap (λ x. (restored_in after c t + x) % word_limit) (restored_own c t)

  pub changes_added : {words after : List ℕ} → Changed wrapped_sum words after → Added contact (restored change) words after
  changes_added changed = record {
    long = changed.long;
    at = λ c t h l. sum_restored changed c t l;
  }

  -- Words from which changes are taken, to which others were added before.
  pub changes_taken : ((t : ℕ) → change t < word_limit) → (added : ℕ → ℕ) (current : ℕ → ℕ)
      → ((t : ℕ) → t < 512 → added t ≡ wrapped_sum (restored change t) (current t)) → {words between after : List ℕ} → Added contact added words between
      → Changed wrapped_difference between after → Added contact current words after
  unfolding wrapped_sum
  changes_taken low added current rest {words} {between} {after} first changed = record {
    long = changed.long ∙ first.long;
    at = λ c t h l.
        let sum = sym (difference_restored low changed c t l) ∙ first.at c t h l in
        let fits = restored_fits (sheet_in after c) t in
        cases (eqb contact c)
        (λ b. rw b (sum_cancels _ _ (restored change t) (current t) fits (rw (b, rest t l) at sum)))
        (λ b. rw b (sum_cancels _ _ 0 0 fits (rw b at sum)));
  }

-- The rows of changes turned into currents, one after the other.

pub rows_none : {stop : ℕ} {words : List ℕ} → length words ≡ 8192 → RowsRestored 0 stop words words
rows_none long = record { long = long; before = λ c t h l. absurd (omega arith); rest = λ c t h l o. refl }

pub rows_next : {n stop : ℕ} {words between after : List ℕ} → n < 16 → stop ≤ 512 → RowsRestored n stop words between
    → Rewritten (restored (λ k. get_or between (512 * n + k) 0)) (512 * n) stop between after → RowsRestored (n + 1) stop words after
rows_next {n} {stop} {words} {between} {after} inside room done row = record {
  long = row.long ∙ done.long;
  before = λ c t h l.
      cases (eqb c n)
      (λ b. let e = eqb-true c n b in
      rw e (row.done t l ∙ restored_same (sheet_in between n) (sheet_in words n) t (λ k q. done.rest n k inside (omega arith) (inl (omega arith)))))
      (λ b. let other : c < n = (let z = eqb-false c n b in omega arith) in
      row.rest (512 * c + t) (inl (omega arith)) ∙ done.before c t other l);
  rest = λ c t h l o. ⊎_elim
      (λ high. row.rest (512 * c + t) (inr (omega arith)) ∙ done.rest c t h l (inl (omega arith)))
      (λ late.
      cases (ltb c n)
      (λ b. let low = ltb-true c n b in row.rest (512 * c + t) (inl (omega arith)) ∙ done.rest c t h l (inr late))
      (λ b. let high = ltb-false c n b in row.rest (512 * c + t) (inr (omega arith)) ∙ done.rest c t h l (inr late)))
      o;
}

-- The current at the next tick of a row, as the loop over the row has it and writes it.
pub tick_restored : (changes : ℕ → ℕ) (t : ℕ) {current change next : ℕ} → current ≡ sum_below t changes % word_limit → change ≡ changes t
    → next ≡ (current + change) % word_limit → (next ≡ sum_below (t + 1) changes % word_limit) × (next ≡ restored changes t)
unfolding restored sum_below
tick_restored changes t {next = next} e d n =
    let is : next ≡ (sum_below t changes + changes t) % word_limit = n ∙ rw (e, d) (mod-add-mod (sum_below t changes) word_limit (changes t)) in
    (is ∙ sym (ap (λ x. x % word_limit) (sum_next t changes)), is)
