-- Laws of the record of a case: how the code writes it, sets first and then the upper number; once it is written the store has that case
-- there, and the others as they were.
-- Assumes nothing.
use Prim.Native.Nat.{ℕ, ◌+◌, ◌*◌, ◌/◌, ◌%◌, ◌^◌, ◌≤◌, ◌<◌}
use mathlib.Core.List.{List, [], ◌∷◌, ◌++◌}
use mathlib.Core.Path.{◌≡◌, refl, ap, sym, subst, ◌∙◌}
use native.Mathlib.Omega.{arith}
use lib.ListN.{length, get_or, take, drop, set, length-drop, length-set, get_or-append}
use Rattle.std.proofs.lemmas.List.{length-take}
use lib.Seq.{get_or-take, get_or-drop, get_or-append-add, get_or-set_same, get_or-set_other}
use Rattle.laws.specs.Below.{max_below, argmax}
use Rattle.laws.specs.Rewritten.{Rewritten}
use Rattle.laws.specs.Turn.{list_below}
use Rattle.laws.proofs.Below.{max_same, argmax_is, argmax_same}
use Rattle.laws.proofs.Numbers.{of_each, outside_record}
use Rattle.laws.proofs.Rewritten.{rewritten_append}
use Rattle.laws.proofs.Turn.{list_at, list_long, list_next, list_is, list_same}
use Rattle.numbers.proofs.WordBytes.{word_same, word_held}
use Rattle.excitation.specs.UncertaintySet.{sets_in}
use Rattle.excitation.proofs.Codes.{sets_same}
use Rattle.block.specs.Limits.{drop_limit}
use Rattle.cases.specs.Case.{Case}
use Rattle.cases.specs.Search.{StoredCase, no_case, upper_at, sets_at, greatest_upper, next_split}
use Rattle.cases.specs.Store.{number_bytes}
use Rattle.cases.specs.Records.{upper_in, case_in, cases_in, record_byte, HasCase, SetCodes, HasCases}
use Rattle.cases.proofs.Numbers.{number_byte}

-- The bytes of a case's sets alone say that they are such bytes.
codes_same : (inputs : ℕ) (codes others : List ℕ) → inputs ≤ 64 → ((j : ℕ) → j < 64 → get_or codes j 0 ≡ get_or others j 0)
    → SetCodes inputs codes → SetCodes inputs others
codes_same inputs codes others few same is = record {
  low = λ net l. rw (← same net (omega arith)) (is.low net l);
  high = λ net l. rw (← same net (omega arith)) (is.high net l);
  none = λ j l m. sym (same j m) ∙ is.none j l m;
}

case_is : {sets others : Case} {upper number : ℕ} → sets ≡ others → upper ≡ number
    → ◌≡◌ {A = StoredCase} (record { sets = sets; upper = upper }) (record { sets = others; upper = number })
case_is e f = λ i. record { sets = e i; upper = f i }

-- The case of these bytes of sets and this upper number.
abbrev pub case_of : ℕ → List ℕ → ℕ → StoredCase
case_of inputs codes upper = record { sets = sets_in inputs codes; upper = upper }

-- The bytes of a record.

module _ (codes : List ℕ) (upper : ℕ) (long : length codes ≡ 64) where
  record_set : (j : ℕ) → j < 64 → record_byte codes upper j ≡ get_or codes j 0
  unfolding record_byte
  record_set j h = get_or-append codes (number_bytes 8 upper) 0 j (omega arith)

  record_number : (j : ℕ) → record_byte codes upper (64 + j) ≡ get_or (number_bytes 8 upper) j 0
  unfolding record_byte
  record_number j = ap (λ n. get_or (codes ++ number_bytes 8 upper) (n + j) 0) (sym long) ∙ get_or-append-add codes (number_bytes 8 upper) j 0

-- A record as the code writes it: its sets, then its upper number.

pub case_written : (codes : List ℕ) (upper start place : ℕ) (store sets after : List ℕ) → length codes ≡ 64 → start ≡ place
    → Rewritten (λ j. get_or codes j 0) start 64 store sets → Rewritten (λ j. upper / 256 ^ j % 256) (start + 64) 8 sets after
    → Rewritten (record_byte codes upper) place 72 store after
case_written codes upper start place store sets after long e first second =
    subst (λ s. Rewritten (record_byte codes upper) s 72 store after) e
    (rewritten_append _ _ (record_byte codes upper) start 64 (start + 64) 8 store sets after refl
    (λ j h. sym (record_set codes upper long j h))
    (λ j h. sym (record_number codes upper long j ∙ number_byte 8 upper j h))
    first second)

-- A record is written: its bytes, its case and every other, the cases that the store has then, and that it has cases then.

module _ (inputs : ℕ) (few : inputs ≤ 64) (codes : List ℕ) (long : length codes ≡ 64) (upper at : ℕ) (store after : List ℕ)
    (written : Rewritten (record_byte codes upper) (72 * at) 72 store after) where
  set_byte : (j : ℕ) → j < 64 → get_or after (72 * at + j) 0 ≡ get_or codes j 0
  set_byte j h = written.done j (omega arith) ∙ record_set codes upper long j h

  upper_byte : (j : ℕ) → j < 8 → get_or after (72 * at + 64 + j) 0 ≡ get_or (number_bytes 8 upper) j 0
  upper_byte j h =
      let e : 72 * at + 64 + j ≡ 72 * at + (64 + j) = omega arith in
      ap (λ i. get_or after i 0) e ∙ written.done (64 + j) (omega arith) ∙ record_number codes upper long j

  other_byte : (k j : ℕ) → (k ≡ at → ⊥) → j < 72 → get_or after (72 * k + j) 0 ≡ get_or store (72 * k + j) 0
  other_byte k j n h = written.rest (72 * k + j) (outside_record 72 at k j n h)

  -- The case that is written, and another.

  upper_here : upper < drop_limit → upper_in after at ≡ upper
  upper_here low = word_held after (72 * at + 64) upper (omega arith) (λ j h. upper_byte j h ∙ number_byte 8 upper j h)

  upper_byte_other : (k : ℕ) → (k ≡ at → ⊥) → (j : ℕ) → j < 8 → get_or after (72 * k + 64 + j) 0 ≡ get_or store (72 * k + 64 + j) 0
  upper_byte_other k n j h =
      let e : 72 * k + 64 + j ≡ 72 * k + (64 + j) = omega arith in
      rw e (other_byte k (64 + j) n (omega arith))

  upper_other : (k : ℕ) → (k ≡ at → ⊥) → upper_in after k ≡ upper_in store k
  upper_other k n = word_same after store (72 * k + 64) (72 * k + 64) (upper_byte_other k n)

  code_here : (j : ℕ) → j < 64 → get_or codes j 0 ≡ get_or (drop (72 * at) after) j 0
  code_here j h = sym (get_or-drop (72 * at) after j 0 ∙ set_byte j h)

  code_other : (k : ℕ) → (k ≡ at → ⊥) → (j : ℕ) → j < 64 → get_or (drop (72 * k) store) j 0 ≡ get_or (drop (72 * k) after) j 0
  code_other k n j h = get_or-drop (72 * k) store j 0 ∙ sym (get_or-drop (72 * k) after j 0 ∙ other_byte k j n (omega arith))

  case_here : upper < drop_limit → case_in inputs after at ≡ case_of inputs codes upper
  case_here low = case_is (sym (sets_same inputs _ _ (λ net h. code_here net (omega arith)))) (upper_here low)

  case_other : (k : ℕ) → (k ≡ at → ⊥) → case_in inputs after k ≡ case_in inputs store k
  case_other k n = case_is (sym (sets_same inputs _ _ (λ net h. code_other k n net (omega arith)))) (upper_other k n)

  -- The cases that the store has once a record is written in the place of another, or after the last.

  pub cases_replaced : (n : ℕ) → upper < drop_limit → at < n → cases_in inputs after n ≡ set (cases_in inputs store n) at (case_of inputs codes upper)
  unfolding cases_in
  cases_replaced n low inside =
      let new = case_of inputs codes upper in
      let before = list_below n (case_in inputs store) in
      sym
      (list_is n (case_in inputs after) no_case (set before at new) (length-set before at new ∙ list_long n (case_in inputs store))
      (of_each (λ k. k < n → get_or (set before at new) k no_case ≡ case_in inputs after k) at
      (λ h. get_or-set_same before at new no_case (omega (arith, list_long n (case_in inputs store))) ∙ sym (case_here low))
      (λ k m h. get_or-set_other before at k new no_case m ∙ list_at n (case_in inputs store) k no_case h ∙ sym (case_other k m))))

  pub cases_appended : (n : ℕ) → upper < drop_limit → at ≡ n → cases_in inputs after (n + 1) ≡ cases_in inputs store n ++ (case_of inputs codes upper ∷ [])
  unfolding cases_in
  cases_appended n low last =
      let new = case_of inputs codes upper in
      let here : case_in inputs after n ≡ new = ap (case_in inputs after) (sym last) ∙ case_here low in
      list_next n (case_in inputs after)
      ∙ ap (λ x. list_below n (case_in inputs after) ++ (x ∷ [])) here
      ∙ ap (λ l. l ++ (new ∷ []))
      (list_same n (case_in inputs after) (case_in inputs store) no_case (λ k h. case_other k (λ e. omega arith)))

  -- Once a record is written, the store's first m records are those of cases, where all but this one were.
  has_written : (n m : ℕ) → SetCodes inputs codes → upper < drop_limit → HasCases inputs store n → 72 * m ≤ length store → m ≤ 30001
      → ((k : ℕ) → k < m → (k ≡ at → ⊥) → k < n) → HasCases inputs after m
  has_written n m coded low has room numbered others = record {
    whole = omega (arith, written.long);
    few = numbered;
    codes = of_each (λ k. k < m → SetCodes inputs (drop (72 * k) after)) at
        (λ h. codes_same inputs _ _ few code_here coded)
        (λ k d h. codes_same inputs _ _ few (code_other k d) (has.codes k (others k h d)));
    upper_low = of_each (λ k. k < m → upper_in after k < drop_limit) at
        (λ h. rw (upper_here low) low)
        (λ k d h. rw (upper_other k d) (has.upper_low k (others k h d)));
    upper_bytes = of_each (λ k. k < m → (j : ℕ) → j < 8 → get_or after (72 * k + 64 + j) 0 ≡ get_or (number_bytes 8 (upper_in after k)) j 0) at
        (λ h j l. upper_byte j l ∙ ap (λ u. get_or (number_bytes 8 u) j 0) (sym (upper_here low)))
        (λ k d h j l. upper_byte_other k d j l ∙ has.upper_bytes k (others k h d) j l ∙ ap (λ u. get_or (number_bytes 8 u) j 0) (sym (upper_other k d)));
  }

  pub has_replaced : (n : ℕ) → SetCodes inputs codes → upper < drop_limit → HasCases inputs store n → HasCases inputs after n
  has_replaced n coded low has = has_written n n coded low has has.whole has.few (λ k h d. h)

  pub has_appended : (n : ℕ) → SetCodes inputs codes → upper < drop_limit → HasCases inputs store n → at ≡ n → 72 * (n + 1) ≤ length store
      → n + 1 ≤ 30001 → HasCases inputs after (n + 1)
  has_appended n coded low has last room numbered =
      has_written n (n + 1) coded low has room numbered (λ k h d. let e : k ≡ n → ⊥ = λ q. d (q ∙ sym last) in omega arith)

-- The sets of a case, copied from its record.

pub copied_long : {store codes : List ℕ} {k : ℕ} → HasCase store k → codes ≡ take 64 (drop (72 * k) store) → length codes ≡ 64
copied_long {store} {k = k} has copied =
    omega (arith, ap length copied, length-take 64 (drop (72 * k) store), length-drop (72 * k) store, has.whole)

module _ (inputs : ℕ) (few : inputs ≤ 64) (store : List ℕ) (k : ℕ) (codes : List ℕ) (copied : codes ≡ take 64 (drop (72 * k) store)) where
  code_copied : (j : ℕ) → j < 64 → get_or (drop (72 * k) store) j 0 ≡ get_or codes j 0
  code_copied j h = sym (ap (λ xs. get_or xs j 0) copied ∙ get_or-take 64 (drop (72 * k) store) j 0 h)

  pub sets_copied : sets_in inputs codes ≡ (case_in inputs store k).sets
  sets_copied = sym (sets_same inputs _ _ (λ net h. code_copied net (omega arith)))

  pub codes_copied : SetCodes inputs (drop (72 * k) store) → SetCodes inputs codes
  codes_copied coded = codes_same inputs _ _ few code_copied coded

-- The cases that the store has, one by one, the case to split, and the greatest upper number.

-- A store that has cases has each of them.
pub has_case : {inputs n k : ℕ} {store : List ℕ} → HasCases inputs store n → k < n → HasCase store k
has_case has inside = record { whole = omega (arith, has.whole); numbered = omega (arith, has.few) }

module _ (inputs : ℕ) (store : List ℕ) (n : ℕ) where
  pub cases_long : length (cases_in inputs store n) ≡ n
  unfolding cases_in
  cases_long = list_long n (case_in inputs store)

  pub case_at : (k : ℕ) → k < n → get_or (cases_in inputs store n) k no_case ≡ case_in inputs store k
  unfolding cases_in
  case_at k h = list_at n (case_in inputs store) k no_case h

  pub sets_at_lem : (k : ℕ) → k < n → sets_at (cases_in inputs store n) k ≡ (case_in inputs store k).sets
  unfolding sets_at
  sets_at_lem k h = ap (λ x. x.sets) (case_at k h)

  upper_at_lem : (k : ℕ) → k < n → upper_at (cases_in inputs store n) k ≡ upper_in store k
  unfolding upper_at
  upper_at_lem k h = ap (λ x. x.upper) (case_at k h)

  pub next_split_lem : next_split (cases_in inputs store n) ≡ argmax n (upper_in store)
  unfolding next_split
  next_split_lem = ap (λ m. argmax m (upper_at (cases_in inputs store n))) cases_long ∙ argmax_same n _ _ upper_at_lem

  pub greatest_upper_lem : 1 ≤ n → greatest_upper (cases_in inputs store n) ≡ upper_in store (argmax n (upper_in store))
  unfolding greatest_upper
  greatest_upper_lem some =
      ap (λ m. max_below m (upper_at (cases_in inputs store n))) cases_long ∙ max_same n _ _ upper_at_lem ∙ sym (argmax_is n (upper_in store) some)
