-- Laws of the words of one excitation of a net, 32 bytes apart: what they hold of the net's sets, and what writing them leaves.
-- Assumes nothing.
use Prim.Native.Nat.{ℕ, zero, suc, ◌+◌, ◌*◌, ◌/◌, ◌%◌, ◌≤◌, ◌<◌}
use mathlib.Core.Bool.{false, false≢true}
use mathlib.Core.List.{List, [], ◌∷◌}
use mathlib.Core.Logic.{◌⊎◌, inl, inr, ⊎_elim}
use mathlib.Core.Path.{◌≡◌, refl, ap, sym, ◌∙◌}
use native.Mathlib.Nat.{eq-or-lt_of_le, add-zero}
use native.Mathlib.Omega.{arith}
use lib.ListN.{length, get_or}
use borrow.Table.Steps.{cases}
use Rattle.laws.proofs.Numbers.{outside_record}
use Rattle.bits.specs.Bits.{bit_at, row_bit}
use Rattle.excitation.specs.Excitation.{same, byte_of, excitation_of}
use Rattle.excitation.specs.UncertaintySet.{member}
use Rattle.excitation.specs.declared.Excitation.{Excitation}
use Rattle.excitation.proofs.Finite.{for_each}
use Rattle.excitation.proofs.Sets.{same_self, same_gives}
use Rattle.excitation.proofs.Bytes.{byte_low, byte_back}
use Rattle.numbers.specs.Words.{word_from}
use Rattle.rows.specs.Rows.{bit_from, set_from, set_in, place_of, RowRead, RowWritten}
use Rattle.rows.proofs.Rows.{Written, word_bit, written_bit, kept_bit}

-- The words of a part stand in the order of the bytes that name excitations.
place_is : (e : Excitation) → place_of e ≡ 8 * byte_of e
unfolding place_of byte_of
place_is = for_each (λ e. place_of e ≡ 8 * byte_of e) refl refl refl refl

place_low : (e : Excitation) → place_of e ≤ 24
place_low e = omega (arith, place_is e, byte_low e)

-- Whether the set at a tick has an excitation is a bit of the excitation's word.
member_bit : (e : Excitation) (work : List ℕ) (net t : ℕ) → member e (set_in work net t) ≡ bit_from work (160 * net + place_of e + 32 * (t / 64)) (t % 64)
unfolding member set_in set_from place_of
member_bit e work net t =
    for_each (λ e. member e (set_from work at (t % 64)) ≡ bit_from work (at + place_of e) (t % 64)) (from (sym (add-zero at))) refl refl refl e
    ∙ from order
  where
    at : ℕ
    at = 160 * net + 32 * (t / 64)

    order : at + place_of e ≡ 160 * net + place_of e + 32 * (t / 64)
    order = omega arith

    from : {i j : ℕ} → i ≡ j → bit_from work i (t % 64) ≡ bit_from work j (t % 64)
    from = ap (λ i. bit_from work i (t % 64))

-- The buffer after the first n words of a row were written, 32 bytes apart.
pub record WordsWritten (row : List ℕ) (at n : ℕ) (given after : List ℕ) : Type 0 where
  pub long : length after ≡ length given
  pub done : (part : ℕ) → part < n → (k : ℕ) → k < 64 → bit_from after (at + 32 * part) k ≡ bit_at (get_or row part 0) k
  pub rest : (j : ℕ) → ((part : ℕ) → part < n → (j < at + 32 * part) ⊎ (at + 32 * part + 8 ≤ j)) → get_or after j 0 ≡ get_or given j 0

-- Nothing is written yet.
pub words_none : (row : List ℕ) (at : ℕ) (given : List ℕ) → WordsWritten row at 0 given given
words_none row at given = record { long = refl; done = λ part h. absurd (omega arith); rest = λ j o. refl }

-- One word more.
pub words_next : (row : List ℕ) (at n : ℕ) {given now after : List ℕ} → WordsWritten row at n given now → Written (get_or row n 0) (at + 32 * n) now after
    → WordsWritten row at (n + 1) given after
words_next row at n {given} {now} {after} w v = record {
  long = v.long ∙ w.long;
  done = λ part h k below. ⊎_elim
      (λ (e : part ≡ n). rw e (written_bit (get_or row n 0) (at + 32 * n) v k below))
      (λ l. kept_bit (get_or row n 0) (at + 32 * n) (at + 32 * part) v (omega arith) k below ∙ w.done part l k below)
      (eq-or-lt_of_le (omega arith));
  rest = λ j o. v.rest j (o n (omega arith)) ∙ w.rest j (λ part h. o part (omega arith));
}

-- The words of excitation e of a net, from the place of the first one on.
module _ (e : Excitation) (net at : ℕ) (place : at ≡ 160 * net + place_of e) where
  pub words_read : (work : List ℕ) → ((i : ℕ) → get_or work i 0 < 256) → {a b c d : ℕ} → a ≡ word_from 3 work at → b ≡ word_from 3 work (at + 32)
      → c ≡ word_from 3 work (at + 64) → d ≡ word_from 3 work (at + 96) → RowRead e net work (a ∷ b ∷ c ∷ d ∷ [])
  unfolding row_bit
  words_read work small {a} {b} {c} {d} p q r s = record {
    long = refl;
    ticks = λ t h.
        ap (λ x. bit_at x (t % 64)) (word (t / 64) (omega arith)) ∙ word_bit work small 3 (at + 32 * (t / 64)) (t % 64) (omega arith)
        ∙ ap (λ x. bit_from work (x + 32 * (t / 64)) (t % 64)) place ∙ sym (member_bit e work net t);
  }
    where
      word : (part : ℕ) → part < 4 → get_or (a ∷ b ∷ c ∷ d ∷ []) part 0 ≡ word_from 3 work (at + 32 * part)
      word zero h = p ∙ ap (word_from 3 work) (sym (add-zero at))
      word (suc zero) h = q
      word (suc (suc zero)) h = r
      word (suc (suc (suc zero))) h = s
      word (suc (suc (suc (suc part)))) h = absurd (omega arith)

  -- Byte i of a word of another excitation is in none of them.
  apart : (f : Excitation) → same f e ≡ false → (p q i : ℕ) → i < 8
      → (160 * net + place_of f + 32 * p + i < at + 32 * q) ⊎ (at + 32 * q + 8 ≤ 160 * net + place_of f + 32 * p + i)
  apart f other p q i h =
      let a = place_is f in
      let b = place_is e in
      ⊎_elim (λ l. inl (omega arith)) (λ l. inr (omega arith)) (outside_record 8 (20 * net + byte_of e + 4 * q) (20 * net + byte_of f + 4 * p) i not_one h)
    where
      not_one : 20 * net + byte_of f + 4 * p ≡ 20 * net + byte_of e + 4 * q → ⊥
      not_one l =
          let byte : byte_of f ≡ byte_of e = omega (arith, byte_low f, byte_low e) in
          let one : f ≡ e = sym (byte_back f) ∙ ap excitation_of byte ∙ byte_back e in
          false≢true (sym other ∙ ap (λ x. same x e) one ∙ same_self e)

  -- All four words of a row: its bits are those of excitation e, and the words of the other excitations are as they were.
  pub words_all : (n : ℕ) (row : List ℕ) {given after : List ℕ} → n ≡ 4 → WordsWritten row at n given after → RowWritten e net row given after
  unfolding row_bit bit_from
  words_all n row {given} {after} four w = record {
    long = w.long;
    ticks = λ f t h. cases (same f e)
        (λ s. rw s (ap (λ x. member x (set_in after net t)) (same_gives f e s) ∙ written t h))
        (λ s. rw s (kept f t s));
    rest = λ j o. w.rest j (λ part h. ⊎_elim (λ b. inl (omega arith)) (λ b. inr (omega (arith, place_low e))) o);
  }
    where
      written : (t : ℕ) → t < 256 → member e (set_in after net t) ≡ row_bit row t
      written t h =
          member_bit e after net t ∙ ap (λ x. bit_from after (x + 32 * (t / 64)) (t % 64)) (sym place)
          ∙ w.done (t / 64) (omega arith) (t % 64) (omega arith)

      kept : (f : Excitation) (t : ℕ) → same f e ≡ false → member f (set_in after net t) ≡ member f (set_in given net t)
      kept f t s =
          let j = 160 * net + place_of f + 32 * (t / 64) + t % 64 / 8 in
          member_bit f after net t
          ∙ ap (λ x. bit_at x (t % 64 % 8)) (w.rest j (λ part l. apart f s (t / 64) part (t % 64 / 8) (omega arith)))
          ∙ sym (member_bit f given net t)
