-- The runs of a row begin at the set bits whose bit before is clear, and these are counted word by word.
-- Assumes nothing.
use Prim.Native.Nat.{ℕ, zero, suc, ◌+◌, ◌-◌, ◌*◌, ◌/◌, ◌%◌, ◌^◌, ◌≤◌, ◌<◌, min}
use mathlib.Core.Bool.{Bool, true, false, not, cond, ◌&&◌, and-true}
use mathlib.Core.List.{List, [], ◌∷◌}
use mathlib.Core.Path.{◌≡◌, refl, ap, ap₂, sym, subst, ◌∙◌}
use native.Mathlib.Nat.{add-zero, zero-add, mod-lt}
use native.Mathlib.Numerals.{one-add}
use native.Mathlib.Omega.{arith}
use lib.Arith.{lt-one}
use lib.Bits.{bit_and, bit_or, or_lt}
use lib.Count.{ones, ones_in, ones_cat}
use lib.Dec.{eqb}
use lib.ListN.{length, get_or}
use lib.Pow.{pow_pos, split, shr_lt}
use borrow.Author.Tests.{eqb-true, eqb-false, eq-eqb, ne_eqb, le-ltb}
use borrow.Table.Steps.{cases}
use Rattle.laws.specs.Below.{indicator, count_below}
use Rattle.laws.specs.Settled.{SettledAfter}
use Rattle.laws.specs.Turn.{list_below}
use Rattle.laws.proofs.Below.{count_at_most, count_same, count_append, count_beyond}
use Rattle.laws.proofs.Turn.{list_is}
use Rattle.bits.specs.Bits.{bit_at, row_bit}
use Rattle.bits.proofs.Bits.{bit_and_lem, bit_not, bit_mod, bit_moved, bit_zero}
use Rattle.runs.specs.Runs.{Run, run, extend, runs_from, runs}
use Rattle.runs.proofs.Runs.{extend_grows, extend_new, grows_or_new, extend_alone, runs_apart}

-- The set bits of a word, counted.
indicator_ones : (x : ℕ) → x < 2 → ones x ≡ indicator (eqb (x % 2) 1)
unfolding ones ones_in
indicator_ones zero h = refl
indicator_ones (suc zero) h = refl
indicator_ones (suc (suc x)) h = absurd (omega arith)

top_indicator : (n x : ℕ) → x < 2 ^ suc n → x / 2 ^ n < 2
top_indicator n x h = shr_lt 1 n (subst (λ k. x < 2 ^ k) (sym (one-add n)) h)

pub ones_count : (n x : ℕ) → x < 2 ^ n → ones x ≡ count_below n (bit_at x)
unfolding count_below bit_at
ones_count zero x h = ap ones (lt-one h) ∙ indicator_ones 0 (omega arith)
ones_count (suc n) x h =
    let high = indicator_ones (x / 2 ^ n) (top_indicator n x h) in
    let low = ones_count n (x % 2 ^ n) (mod-lt x (pow_pos n)) ∙ count_same n (bit_at (x % 2 ^ n)) (bit_at x) (λ k l. bit_mod x n k l) in
    ap ones (sym (split x n)) ∙ ones_cat n (x / 2 ^ n) (x % 2 ^ n) (mod-lt x (pow_pos n)) ∙ omega (arith, high, low)

-- The levels of n ticks from tick t on.
unfoldable pub ticks_from : (ℕ → Bool) → ℕ → ℕ → List Bool
ticks_from held t zero = []
ticks_from held t (suc n) = held t ∷ ticks_from held (suc t) n

from_at : (held : ℕ → Bool) (t n k : ℕ) → k < n → get_or (ticks_from held t n) k false ≡ held (t + k)
unfolding ticks_from
from_at held t zero k h = absurd (omega arith)
from_at held t (suc n) zero h = ap held (sym (add-zero t))
from_at held t (suc n) (suc k) h = let e : suc t + k ≡ t + suc k = omega arith in from_at held (suc t) n k (omega arith) ∙ ap held e

from_long : (held : ℕ → Bool) (t n : ℕ) → length (ticks_from held t n) ≡ n
unfolding ticks_from
from_long held t zero = refl
from_long held t (suc n) = ap suc (from_long held (suc t) n)

pub ticks_list : (held : ℕ → Bool) (n : ℕ) → ticks_from held 0 n ≡ list_below n held
ticks_list held n = list_is n held false (ticks_from held 0 n) (from_long held 0 n) (λ k h. from_at held 0 n k h ∙ ap held (zero-add k))

-- Whether a run begins at tick t, where `first` stands before tick 0.
abbrev pub starts_at : (ℕ → Bool) → Bool → ℕ → Bool
starts_at held first t = held t && not (cond (eqb t 0) first (held (t - 1)))

unfoldable pub begins_at : (ℕ → Bool) → ℕ → Bool
begins_at held t = starts_at held false t

-- Two ticks more before some runs are in one run.
extend_twice : (t : ℕ) (rs : List Run) → length (extend t (extend (suc t) rs)) ≡ length (extend (suc t) rs)
unfolding extend
extend_twice t [] = ap length (extend_grows t (suc t) (suc t) [] refl)
extend_twice t (run first last ∷ rest) =
    grows_or_new (suc t) first
    (λ e. rw (extend_grows (suc t) first last rest e) (ap length (extend_grows t (suc t) last rest refl)))
    (λ n. rw (extend_new (suc t) first last rest n) (ap length (extend_grows t (suc t) (suc t) (run first last ∷ rest) refl)))

neighbours : (a b : Bool) → 2 * indicator (b && not a) + indicator a ≤ 1 + indicator b
neighbours true true = omega arith
neighbours true false = omega arith
neighbours false true = omega arith
neighbours false false = omega arith

module _ (held : ℕ → Bool) where
  begins_first : begins_at held 0 ≡ held 0
  unfolding begins_at
  begins_first = and-true (held 0)

  begins_later : (t : ℕ) → begins_at held (suc t) ≡ (held (suc t) && not (held t))
  unfolding begins_at
  begins_later t = let e : suc t - 1 ≡ t = omega arith in rw (ne_eqb (suc t) 0 (λ z. omega arith), e) refl

  -- Runs counted by their ends: a tick before others adds one where it is held and the next is not.
  abbrev ends_at : ℕ → Bool
  ends_at t = held t && not (held (suc t))

  one_more : (t n : ℕ)
      → length (runs_from t (ticks_from held t (suc (suc n)))) ≡ indicator (ends_at t) + length (runs_from (suc t) (ticks_from held (suc t) (suc n)))
  unfolding ticks_from runs_from
  one_more t n = by (held t) (held (suc t)) (ticks_from held (suc (suc t)) n)
    where
      by : (a b : Bool) (later : List Bool)
          → length (runs_from t (a ∷ b ∷ later)) ≡ indicator (a && not b) + length (runs_from (suc t) (b ∷ later))
      by true true later = omega (arith, extend_twice t (runs_from (suc (suc t)) later))
      by true false later = omega (arith, ap length (extend_alone (runs_apart (suc (suc t)) later)))
      by false b later = omega arith

  ends_from : (t n : ℕ)
      → count_below t ends_at + length (runs_from t (ticks_from held t (suc n))) ≡ count_below (t + n) ends_at + indicator (held (t + n))
  unfolding count_below runs_from ticks_from extend
  ends_from t zero = rw (add-zero t) (ap (λ n. count_below t ends_at + n) (one (held t)))
    where
      one : (a : Bool) → length (runs_from t (a ∷ [])) ≡ indicator a
      one true = refl
      one false = refl
  ends_from t (suc n) =
      let e : suc t + n ≡ t + suc n = omega arith in
      rw (← e) (omega (arith, one_more t n, ends_from (suc t) n))

  -- A run begins for each that ended, and for one that is held still.
  begins_ends : (n : ℕ) → count_below (suc n) (begins_at held) ≡ count_below n ends_at + indicator (held n)
  unfolding count_below
  begins_ends zero = ap (λ b. 0 + indicator b) begins_first
  begins_ends (suc n) = omega (arith, begins_ends n, ap indicator (begins_later n), by (held n) (held (suc n)))
    where
      by : (a b : Bool) → indicator a + indicator (b && not a) ≡ indicator (a && not b) + indicator b
      by true true = refl
      by true false = refl
      by false true = refl
      by false false = refl

  begins_runs : (n : ℕ) → count_below (suc n) (begins_at held) ≡ length (runs (list_below (suc n) held))
  unfolding count_below
  begins_runs n =
      rw (← ticks_list held (suc n), begins_ends n)
      (sym (omega (arith, ends_from 0 n) ∙ ap (λ k. count_below k ends_at + indicator (held k)) (zero-add n)))

  -- Two runs do not begin at neighbouring ticks.
  begins_few : (n : ℕ) → 2 * count_below (suc n) (begins_at held) ≤ suc n + indicator (held n)
  unfolding count_below
  begins_few zero = omega (arith, ap indicator begins_first, count_at_most 1 held)
  begins_few (suc n) = omega (arith, begins_few n, ap indicator (begins_later n), neighbours (held n) (held (suc n)))

-- A row that is the same after tick `last`: no run begins after the tick that follows it.
module _ (held : ℕ → Bool) (last : ℕ) (settled : SettledAfter last held) where
  none_begins : (t : ℕ) → last + 2 ≤ t → t < 256 → begins_at held t ≡ false
  unfolding begins_at
  none_begins t low high =
      let here = settled.same t (omega arith) high in
      let before = settled.same (t - 1) (omega arith) (omega arith) in
      rw (ne_eqb t 0 (λ z. omega arith), here, before) (opposite (held 255))
    where
      opposite : (b : Bool) → (b && not b) ≡ false
      opposite true = refl
      opposite false = refl

  pub settled_count : (n : ℕ) → min (last + 2) 256 ≤ n → n ≤ 256 → count_below n (begins_at held) ≡ length (runs (list_below 256 held))
  settled_count n low high =
      sym (count_beyond 256 n (begins_at held) high (λ k l h. none_begins k (omega arith) h)) ∙ begins_runs held 255

  -- A run takes two ticks with the gap after it, so there are few.
  pub settled_few : last < 256 → 2 * length (runs (list_below 256 held)) ≤ last + 3
  settled_few inside =
      let n = min (last + 1) 255 in
      let count = settled_count (suc n) (omega arith) (omega arith) in
      cases (held n) (λ t. omega (arith, begins_few held n, ap indicator t)) (λ t. omega (arith, begins_few held n, ap indicator t))

-- The starts of a word, as `starts` promises them: its set bits whose bit before is clear.
abbrev pub StartsOf : ℕ → ℕ → ℕ → Type 0
StartsOf word before begun = (k : ℕ) → k < 64 → bit_at begun k ≡ starts_at (bit_at word) (bit_at before 63) k

abbrev shifted : ℕ → ℕ → ℕ
shifted word before = bit_or (word * 2 ^ 1 % 2 ^ 64) (before / 2 ^ 63)

-- By shifting: bit 0 is the last of the word before, and each other is the one before it.
module _ (word before : ℕ) (fits : before < 2 ^ 64) where
  shifted_bit : (k : ℕ) → k < 64 → bit_at (shifted word before) k ≡ cond (eqb k 0) (bit_at before 63) (bit_at word (k - 1))
  shifted_bit zero h = bit_moved before word 1 0 fits (omega arith) (omega arith) h
  shifted_bit (suc k) h =
      bit_moved before word 1 (suc k) fits (omega arith) (omega arith) h
      ∙ rw (le-ltb (suc k) 1 (omega arith), ne_eqb (suc k) 0 (λ z. omega arith)) refl

  pub starts_by_shift : StartsOf word before (bit_and word (2 ^ 64 - 1 - shifted word before))
  starts_by_shift k h =
      bit_and_lem word (2 ^ 64 - 1 - shifted word before) k
      ∙ ap (λ b. bit_at word k && b) (bit_not 64 (shifted word before) k shifted_fits h ∙ ap not (shifted_bit k h))
    where
      shifted_fits : shifted word before < 2 ^ 64
      shifted_fits = or_lt 64 (word * 2 ^ 1 % 2 ^ 64) (before / 2 ^ 63) (mod-lt _ (pow_pos 64)) (omega (arith, shr_lt 1 63 fits))

-- Ticks by words. The last bit of the word before word w is that of tick 64 * w - 1; before the first word it is clear.
abbrev pub LastBit : (ℕ → Bool) → ℕ → Bool → Type 0
LastBit held w bit = bit ≡ cond (eqb w 0) false (held (64 * w - 1))

module _ (held : ℕ → Bool) (w : ℕ) (at : ℕ → Bool) (here : (k : ℕ) → k < 64 → at k ≡ held (64 * w + k)) where
  pub last_bit : LastBit held (w + 1) (at 63)
  last_bit =
      let last : 64 * w + 63 ≡ 64 * (w + 1) - 1 = omega arith in
      here 63 (omega arith) ∙ ap held last ∙ rw (ne_eqb (w + 1) 0 (λ z. omega arith)) refl

  -- A run begins at a tick of the word where the bit is set and the one before is clear.
  pub begins_in_word : (first : Bool) → LastBit held w first → (k : ℕ) → k < 64
      → starts_at at first k ≡ begins_at held (64 * w + k)
  unfolding begins_at
  begins_in_word first last zero h =
      cases (eqb w 0)
      (λ t. let z = eqb-true w 0 t in
      let off : first ≡ false = rw t at last in
      rw (eq-eqb (64 * w + 0) 0 (omega arith)) (ap₂ (λ a b. a && not b) (here 0 h) off))
      (λ t. let z = eqb-false w 0 t in
      let e : 64 * w - 1 ≡ 64 * w + 0 - 1 = omega arith in
      let set : first ≡ held (64 * w - 1) = rw t at last in
      rw (ne_eqb (64 * w + 0) 0 (λ u. omega arith)) (ap₂ (λ a b. a && not b) (here 0 h) (set ∙ ap held e)))
  begins_in_word first last (suc k) h =
      let e : 64 * w + (suc k - 1) ≡ 64 * w + suc k - 1 = omega arith in
      rw (ne_eqb (suc k) 0 (λ u. omega arith), ne_eqb (64 * w + suc k) 0 (λ u. omega arith))
      (ap₂ (λ a b. a && not b) (here (suc k) h) (here (suc k - 1) (omega arith) ∙ ap held e))

-- The runs that begin in the first w words were counted, and the last bit of these words stands before the next.
pub record Counted (row : List ℕ) (w count before : ℕ) : Type 0 where
  pub begun : count ≡ count_below (64 * w) (begins_at (row_bit row))
  pub last : LastBit (row_bit row) w (bit_at before 63)

pub counted_none : (row : List ℕ) → Counted row 0 0 0
unfolding count_below
counted_none row = record { begun = refl; last = bit_zero 63 }

pub counted_few : {row : List ℕ} {w count before : ℕ} → Counted row w count before → count ≤ 64 * w
counted_few {row} {w} so_far = omega (arith, so_far.begun, count_at_most (64 * w) (begins_at (row_bit row)))

word_at : (row : List ℕ) (w k : ℕ) → k < 64 → bit_at (get_or row w 0) k ≡ row_bit row (64 * w + k)
unfolding row_bit
word_at row w k h =
    let p : w ≡ (64 * w + k) / 64 = omega arith in
    let q : k ≡ (64 * w + k) % 64 = omega arith in
    ap₂ (λ i j. bit_at (get_or row i 0) j) p q

pub counted_more : (row : List ℕ) (w count before begun : ℕ) → Counted row w count before → begun < 2 ^ 64 → StartsOf (get_or row w 0) before begun
    → Counted row (w + 1) (count + ones begun) (get_or row w 0)
counted_more row w count before begun so_far fits starts =
    let all : 64 * w + 64 ≡ 64 * (w + 1) = omega arith in
    record {
      begun = ap₂ ◌+◌ so_far.begun (ones_count 64 begun fits ∙ count_same 64 (bit_at begun) (λ k. begins_at (row_bit row) (64 * w + k)) begins)
          ∙ sym (count_append (64 * w) 64 (begins_at (row_bit row)))
          ∙ ap (λ n. count_below n (begins_at (row_bit row))) all;
      last = last_bit (row_bit row) w (bit_at (get_or row w 0)) (word_at row w);
    }
  where
    begins : (k : ℕ) → k < 64 → bit_at begun k ≡ begins_at (row_bit row) (64 * w + k)
    begins k h = starts k h ∙ begins_in_word (row_bit row) w (bit_at (get_or row w 0)) (word_at row w) (bit_at before 63) so_far.last k h
