-- Ranges of ticks set in a row, a word at a time.
-- Assumes nothing.
use Prim.Native.Nat.{ℕ, ◌+◌, ◌-◌, ◌*◌, ◌/◌, ◌%◌, ◌^◌, ◌≤◌, ◌<◌}
use mathlib.Core.Bool.{not, ◌&&◌, ◌||◌, and_comm}
use mathlib.Core.List.{List}
use mathlib.Core.Path.{◌≡◌, refl, ap, ap₂, ◌∙◌}
use native.Mathlib.Omega.{arith}
use lib.Bits.{bit_and, bit_or}
use lib.Dec.{eqb, leb, ltb}
use lib.ListN.{length, get_or, set, length-set}
use lib.Seq.{get_or-set_same, get_or-set_other}
use borrow.Author.Tests.{eqb-true, eqb-false, ltb-true, ltb-false, le-leb, lt-leb}
use borrow.Table.Steps.{cases}
use Rattle.bits.specs.Bits.{bit_at, row_bit}
use Rattle.bits.proofs.Bits.{bit_and_lem, bit_or_lem, bit_not}
use Rattle.runs.specs.Rows.{RangeSet}

not_before : (t from : ℕ) → not (ltb t from) ≡ leb from t
not_before t from =
    cases (ltb t from)
    (λ e. rw (e, lt-leb from t (ltb-true t from e)) refl)
    (λ e. rw (e, le-leb from t (ltb-false t from e)) refl)

module _ (from to : ℕ) (given : List ℕ) where
  -- The first w words of a row were set in the range.
  pub record RangeSoFar (w : ℕ) (row : List ℕ) : Type 0 where
    pub long : length row ≡ length given
    pub done : (i j : ℕ) → i < w → j < 64
        → bit_at (get_or row i 0) j ≡ (bit_at (get_or given i 0) j || (leb from (64 * i + j) && ltb (64 * i + j) to))
    pub rest : (i : ℕ) → w ≤ i → get_or row i 0 ≡ get_or given i 0

  -- One word more: its bits before tick `to` and not before tick `from`.
  module _ (w a b : ℕ) (row : List ℕ) (so_far : RangeSoFar w row) (within : w < length row) (fits : b < 2 ^ 64)
      (before_to : (j : ℕ) → j < 64 → bit_at a j ≡ ltb (64 * w + j) to)
      (before_from : (j : ℕ) → j < 64 → bit_at b j ≡ ltb (64 * w + j) from) where
    abbrev word : ℕ
    word = bit_or (get_or row w 0) (bit_and a (2 ^ 64 - 1 - b))

    word_bit : (j : ℕ) → j < 64 → bit_at word j ≡ (bit_at (get_or given w 0) j || (leb from (64 * w + j) && ltb (64 * w + j) to))
    word_bit j h =
        bit_or_lem (get_or row w 0) (bit_and a (2 ^ 64 - 1 - b)) j
        ∙ ap₂ ◌||◌ (ap (λ x. bit_at x j) (so_far.rest w (omega arith)))
        (bit_and_lem a (2 ^ 64 - 1 - b) j
        ∙ ap₂ ◌&&◌ (before_to j h) (bit_not 64 b j fits h ∙ ap not (before_from j h) ∙ not_before (64 * w + j) from)
        ∙ and_comm (ltb (64 * w + j) to) (leb from (64 * w + j)))

    pub range_more : RangeSoFar (w + 1) (set row w word)
    range_more = record {
      long = length-set row w word ∙ so_far.long;
      done = λ i j low high.
          cases (eqb i w)
          (λ t. rw (eqb-true i w t, get_or-set_same row w word 0 within) (word_bit j high))
          (λ t. let other = eqb-false i w t in
          rw (get_or-set_other row w i word 0 other) (so_far.done i j (omega arith) high));
      rest = λ i low. get_or-set_other row w i word 0 (λ z. omega arith) ∙ so_far.rest i (omega arith);
    }

  pub range_set : (w : ℕ) (row : List ℕ) → RangeSoFar w row → 4 ≤ w → RangeSet from to given row
  unfolding row_bit
  range_set w row all four = record {
    long = all.long;
    ticks = λ t h.
        let e : 64 * (t / 64) + t % 64 ≡ t = omega arith in
        all.done (t / 64) (t % 64) (omega arith) (omega arith)
        ∙ ap (λ u. bit_at (get_or given (t / 64) 0) (t % 64) || (leb from u && ltb u to)) e;
  }
