-- Laws of words in bytes, of rows made a part of 64 ticks at a time, and of rows moved by some ticks.
-- Assumes nothing.
use Prim.Native.Nat.{ℕ, zero, suc, ◌+◌, ◌-◌, ◌*◌, ◌/◌, ◌%◌, ◌^◌, ◌≤◌, ◌<◌}
use mathlib.Core.Bool.{cond}
use mathlib.Core.List.{List}
use mathlib.Core.Logic.{◌⊎◌, inl, inr, ⊎_elim}
use mathlib.Core.Path.{◌≡◌, refl, ap, ap₂, sym, subst, ◌∙◌}
use native.Mathlib.Nat.{add_comm, mul_comm, pow-suc}
use native.Mathlib.Omega.{arith}
use lib.Arith.{digits_lt}
use lib.Dec.{ltb}
use lib.ListN.{get_or}
use lib.Pow.{pow-add}
use borrow.Author.Tests.{ltb-true, ltb-false, lt-ltb, le-ltb}
use borrow.Table.Steps.{cases}
use Rattle.laws.specs.Rewritten.{Rewritten}
use Rattle.bits.specs.Bits.{bit_at}
use Rattle.bits.proofs.Bits.{bit_shr, bit_high, bit_low_part, bit_mod}
use Rattle.excitation.specs.UncertaintySet.{UncertaintySet, decode}
use Rattle.excitation.proofs.Sets.{four_members}
use Rattle.parts.specs.Parts.{set_at}
use Rattle.parts.specs.declared.Part.{Part}
use Rattle.numbers.specs.Words.{word_from}
use Rattle.rows.specs.Rows.{bit_from, set_from, set_in, PartWritten, HasRow, RowMade}

module _ (bytes : List ℕ) (small : (i : ℕ) → get_or bytes i 0 < 256) where
  -- The halves of a word, high first.
  halves : (n at : ℕ) → word_from (suc n) bytes at ≡ word_from n bytes (at + 2 ^ n) * 2 ^ (8 * 2 ^ n) + word_from n bytes at
  unfolding word_from
  halves n at =
      add_comm (word_from n bytes at) (2 ^ (8 * 2 ^ n) * word_from n bytes (at + 2 ^ n))
      ∙ ap (λ x. x + word_from n bytes at) (mul_comm (2 ^ (8 * 2 ^ n)) (word_from n bytes (at + 2 ^ n)))

  doubled : (n : ℕ) → 8 * 2 ^ n + 8 * 2 ^ n ≡ 8 * 2 ^ suc n
  doubled n = let e = pow-suc 2 n in omega arith

  word_below : (n at : ℕ) → word_from n bytes at < 2 ^ (8 * 2 ^ n)
  unfolding word_from
  word_below zero at = small at
  word_below (suc n) at =
      rw halves
      (subst (λ x. word_from n bytes (at + 2 ^ n) * 2 ^ (8 * 2 ^ n) + word_from n bytes at < x)
      (sym (pow-add 2 (8 * 2 ^ n) (8 * 2 ^ n)) ∙ ap (λ x. 2 ^ x) (doubled n))
      (digits_lt (word_below n (at + 2 ^ n)) (word_below n at)))

  -- The bits of a word are those of its bytes.
  pub word_bit : (n at k : ℕ) → k < 8 * 2 ^ n → bit_at (word_from n bytes at) k ≡ bit_from bytes at k
  unfolding word_from bit_from
  word_bit zero at k h =
      let first : at ≡ at + k / 8 = omega arith in
      let here : k ≡ k % 8 = omega arith in
      ap₂ (λ i j. bit_at (get_or bytes i 0) j) first here
  word_bit (suc n) at k h =
      let p = 2 ^ n in
      let lo = word_from n bytes at in
      let hi = word_from n bytes (at + p) in
      ap (λ x. bit_at x k) (halves n at)
      ∙ cases (ltb k (8 * p))
      (λ t. bit_low_part hi (8 * p) lo k (word_below n at) (ltb-true k (8 * p) t) ∙ word_bit n at k (ltb-true k (8 * p) t))
      (λ t.
      let l : 8 * p ≤ k = ltb-false k (8 * p) t in
      let j = k - 8 * p in
      let split : 8 * p + j ≡ k = omega arith in
      let d = doubled n in
      let place : at + p + j / 8 ≡ at + k / 8 = omega arith in
      let here : j % 8 ≡ k % 8 = omega arith in
      ap (bit_at (hi * 2 ^ (8 * p) + lo)) (sym split) ∙ bit_high hi (8 * p) lo j (word_below n at)
      ∙ word_bit n (at + p) j (omega arith) ∙ ap₂ (λ i j. bit_at (get_or bytes i 0) j) place here)

-- The bits of a word's bytes.

power_of_256 : (i : ℕ) → 256 ^ i ≡ 2 ^ (8 * i)
power_of_256 zero = refl
power_of_256 (suc i) =
    let e : 8 * i + 8 ≡ 8 * suc i = omega arith in
    pow-suc 256 i ∙ ap (λ x. x * 256) (power_of_256 i) ∙ sym (pow-add 2 (8 * i) 8) ∙ ap (λ x. 2 ^ x) e

byte_bit : (word k : ℕ) → bit_at (word / 256 ^ (k / 8) % 256) (k % 8) ≡ bit_at word k
byte_bit word k =
    let split : 8 * (k / 8) + k % 8 ≡ k = omega arith in
    bit_mod (word / 256 ^ (k / 8)) 8 (k % 8) (omega arith)
    ∙ ap (λ x. bit_at (word / x) (k % 8)) (power_of_256 (k / 8))
    ∙ bit_shr word (8 * (k / 8)) (k % 8) ∙ ap (bit_at word) split

-- The eight bytes from a place on are those of a word; all others are as they were.
abbrev pub Written : ℕ → ℕ → List ℕ → List ℕ → Type 0
Written word at = Rewritten (λ i. word / 256 ^ i % 256) at 8

pub written_bit : (word at : ℕ) {given after : List ℕ} → Written word at given after → (k : ℕ) → k < 64 → bit_from after at k ≡ bit_at word k
unfolding bit_from
written_bit word at w k h = ap (λ x. bit_at x (k % 8)) (w.done (k / 8) (omega arith)) ∙ byte_bit word k

pub kept_bit : (word at other : ℕ) {given after : List ℕ} → Written word at given after → other + 8 ≤ at → (k : ℕ) → k < 64 → bit_from after other k ≡ bit_from given other k
unfolding bit_from
kept_bit word at other w l k h = ap (λ x. bit_at x (k % 8)) (w.rest (other + k / 8) (inl (omega arith)))

-- A part written, one word after the other.
pub four_written : (sets : Part) (at : ℕ) {g a b c d : List ℕ} → Written sets.l at g a → Written sets.h (at + 8) a b
    → Written sets.hl (at + 16) b c → Written sets.lh (at + 24) c d → PartWritten sets at g d
unfolding set_from set_at
four_written sets at w x y z = record {
  long = z.long ∙ y.long ∙ x.long ∙ w.long;
  sets = λ k h. four_members
      (kept_bit _ _ at z (omega arith) k h ∙ kept_bit _ _ at y (omega arith) k h ∙ kept_bit _ _ at x (omega arith) k h ∙ written_bit _ at w k h)
      (kept_bit _ _ (at + 8) z (omega arith) k h ∙ kept_bit _ _ (at + 8) y (omega arith) k h ∙ written_bit _ (at + 8) x k h)
      (kept_bit _ _ (at + 16) z (omega arith) k h ∙ written_bit _ (at + 16) y k h)
      (written_bit _ (at + 24) z k h);
  rest = λ j o. ⊎_elim
      (λ l. z.rest j (inl (omega arith)) ∙ y.rest j (inl (omega arith)) ∙ x.rest j (inl (omega arith)) ∙ w.rest j (inl l))
      (λ l. z.rest j (inr (omega arith)) ∙ y.rest j (inr (omega arith)) ∙ x.rest j (inr (omega arith)) ∙ w.rest j (inr (omega arith)))
      o;
}

-- Rows made a part at a time.

from_kept : (at : ℕ) (given after : List ℕ) → ((j : ℕ) → at ≤ j → j < at + 32 → get_or after j 0 ≡ get_or given j 0) → (k : ℕ) → k < 64
    → set_from after at k ≡ set_from given at k
unfolding set_from bit_from
from_kept at given after same k h =
    four_members (bit (at + k / 8) (omega arith) (omega arith)) (bit (at + 8 + k / 8) (omega arith) (omega arith))
    (bit (at + 16 + k / 8) (omega arith) (omega arith)) (bit (at + 24 + k / 8) (omega arith) (omega arith))
  where
    bit : (j : ℕ) → at ≤ j → j < at + 32 → bit_at (get_or after j 0) (k % 8) ≡ bit_at (get_or given j 0) (k % 8)
    bit j low high = ap (λ x. bit_at x (k % 8)) (same j low high)

pub part_is : (work : List ℕ) (net part k : ℕ) → k < 64 → set_from work (160 * net + 32 * part) k ≡ set_in work net (64 * part + k)
unfolding set_in
part_is work net part k h =
    let p : part ≡ (64 * part + k) / 64 = omega arith in
    let q : k ≡ (64 * part + k) % 64 = omega arith in
    ap₂ (λ x y. set_from work (160 * net + 32 * x) y) p q

-- The sets of a net are those of the first 128 of its 160 bytes.
pub sets_kept : (net : ℕ) (given after : List ℕ) → ((k : ℕ) → k < 128 → get_or after (160 * net + k) 0 ≡ get_or given (160 * net + k) 0)
    → (t : ℕ) → t < 256 → set_in after net t ≡ set_in given net t
unfolding set_in
sets_kept net given after same t h =
    from_kept (160 * net + 32 * (t / 64)) given after
    (λ j low high.
    let e : 160 * net + (j - 160 * net) ≡ j = omega arith in
    ap (λ i. get_or after i 0) (sym e) ∙ same (j - 160 * net) (omega arith) ∙ ap (λ i. get_or given i 0) e)
    (t % 64) (omega arith)

pub row_none : (rule : ℕ → UncertaintySet) (net : ℕ) (given : List ℕ) → RowMade rule net 0 given given
row_none rule net given = record { long = refl; sets = λ t h. absurd (omega arith); rest = λ j o. refl }

-- What is not made yet is as it was, of any net.
pub row_unread : (rule : ℕ → UncertaintySet) (net part : ℕ) {given now : List ℕ} → RowMade rule net (64 * part) given now → part < 4
    → (other k : ℕ) → k < 64 → set_in now other (64 * part + k) ≡ set_in given other (64 * part + k)
row_unread rule net part {given} {now} w l other k h =
    sym (part_is now other part k h)
    ∙ from_kept (160 * other + 32 * part) given now (λ j low high. w.rest j (side j low high)) k h
    ∙ part_is given other part k h
  where
    side : (j : ℕ) → 160 * other + 32 * part ≤ j → j < 160 * other + 32 * part + 32 → (j < 160 * net) ⊎ (160 * net + 64 * part / 2 ≤ j)
    side j low high = cases (ltb other net) (λ t. let m = ltb-true other net t in inl (omega arith)) (λ t. let m = ltb-false other net t in inr (omega arith))

pub row_next : (rule : ℕ → UncertaintySet) (net part : ℕ) (sets : Part) {given now after : List ℕ} → RowMade rule net (64 * part) given now
    → PartWritten sets (160 * net + 32 * part) now after → ((k : ℕ) → k < 64 → set_at sets k ≡ rule (64 * part + k))
    → RowMade rule net (64 * (part + 1)) given after
row_next rule net part sets {given} {now} {after} w v right = record {
  long = v.long ∙ w.long;
  sets = λ t h. cases (ltb t (64 * part)) (λ b. before t (ltb-true t (64 * part) b)) (λ b. here t (ltb-false t (64 * part) b) h);
  rest = λ j o. ⊎_elim
      (λ l. v.rest j (inl (omega arith)) ∙ w.rest j (inl l))
      (λ l. v.rest j (inr (omega arith)) ∙ w.rest j (inr (omega arith)))
      o;
}
  where
    before : (t : ℕ) → t < 64 * part → set_in after net t ≡ rule t
    before t h =
        let split : 64 * (t / 64) + t % 64 ≡ t = omega arith in
        let low : t % 64 < 64 = omega arith in
        ap (set_in after net) (sym split) ∙ sym (part_is after net (t / 64) (t % 64) low)
        ∙ from_kept (160 * net + 32 * (t / 64)) now after (λ j a b. v.rest j (inl (omega arith))) (t % 64) low
        ∙ part_is now net (t / 64) (t % 64) low ∙ ap (set_in now net) split ∙ w.sets t h

    here : (t : ℕ) → 64 * part ≤ t → t < 64 * (part + 1) → set_in after net t ≡ rule t
    here t a b =
        let split : 64 * part + t % 64 ≡ t = omega arith in
        let low : t % 64 < 64 = omega arith in
        ap (set_in after net) (sym split) ∙ sym (part_is after net part (t % 64) low) ∙ v.sets (t % 64) low ∙ right (t % 64) low ∙ ap rule split

pub row_room : (rule : ℕ → UncertaintySet) (net n : ℕ) {given now : List ℕ} → RowMade rule net n given now → (other : ℕ) → HasRow given other → HasRow now other
row_room rule net n w other r = record { whole = omega (arith, w.long, r.whole); numbered = r.numbered }

pub row_to : (rule : ℕ → UncertaintySet) (net n m : ℕ) {given now : List ℕ} → n ≡ m → RowMade rule net n given now → RowMade rule net m given now
row_to rule net n m {given} {now} e w = subst (λ k. RowMade rule net k given now) e w

-- Rows d ticks later. Before each part stands the part before it, and before the first one the set before tick 0, 64 times.
module _ (source : ℕ → UncertaintySet) (d before : ℕ) where
  unfoldable pub part_before : ℕ → UncertaintySet
  part_before t = cond (ltb t 64) (decode before) (source (t - 64))

  abbrev pub delayed_set : ℕ → UncertaintySet
  delayed_set t = cond (ltb t d) (decode before) (source (t - d))

  pub first_before : (k : ℕ) → k < 64 → decode before ≡ part_before (64 * 0 + k)
  unfolding part_before
  first_before k h = rw (lt-ltb (64 * 0 + k) 64 (omega arith)) refl

  pub next_before : (part k : ℕ) → k < 64 → source (64 * part + k) ≡ part_before (64 * (part + 1) + k)
  unfolding part_before
  next_before part k h =
      let e : 64 * part + k ≡ 64 * (part + 1) + k - 64 = omega arith in
      ap source e ∙ rw (le-ltb (64 * (part + 1) + k) 64 (omega arith)) refl

  pub delayed_part : (part k : ℕ) (earlier here moved : Part) → d < 64 → ((k : ℕ) → k < 64 → set_at earlier k ≡ part_before (64 * part + k))
      → ((k : ℕ) → k < 64 → set_at here k ≡ source (64 * part + k))
      → set_at moved k ≡ cond (ltb k d) (set_at earlier (k + 64 - d)) (set_at here (k - d)) → k < 64 → set_at moved k ≡ delayed_set (64 * part + k)
  unfolding part_before
  delayed_part part k earlier here moved high p q m h =
      m
      ∙ cases (ltb k d)
      (λ t. let l = ltb-true k d t in
      rw t (p (k + 64 - d) (omega arith)
      ∙ cases (ltb (64 * part + k) d)
      (λ u. let v = ltb-true (64 * part + k) d u in rw (u, lt-ltb (64 * part + (k + 64 - d)) 64 (omega arith)) refl)
      (λ u. let v = ltb-false (64 * part + k) d u in
      let e : 64 * part + (k + 64 - d) - 64 ≡ 64 * part + k - d = omega arith in
      rw (u, le-ltb (64 * part + (k + 64 - d)) 64 (omega arith), e) refl)))
      (λ t. let l = ltb-false k d t in
      let e : 64 * part + (k - d) ≡ 64 * part + k - d = omega arith in
      rw (t, le-ltb (64 * part + k) d (omega arith)) (q (k - d) (omega arith) ∙ ap source e))
