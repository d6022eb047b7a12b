-- Laws of a sheet as a buffer has it.
-- Assumes nothing.
use Rattle.std.proofs.Common.{◌≡◌, ℕ, ◌+◌, ◌*◌, ◌/◌, ◌%◌, ◌<◌, ◌≤◌, List, length, get_or, sym, ap, ◌∙◌, arith, ext_get_or}
use Rattle.laws.proofs.Pairs.{pairs_at, pairs_list}
use Rattle.laws.proofs.Turn.{list_at, list_long}
use Rattle.sheet.specs.Sheet.{Sheet, sheet_words, sheet_in, drop_of, quiet_tick}
use Rattle.sheet.proofs.Drops.{drop_same}
use Rattle.sheet.proofs.QuietTick.{quiet_same}

word_at : (s : Sheet) (i : ℕ) → i < 8192 → get_or (sheet_words s) i 0 ≡ s (i / 512) (i % 512)
unfolding sheet_words
word_at s i h = list_at 8192 (λ i. s (i / 512) (i % 512)) i 0 h

sheet_at : (s : Sheet) (c t : ℕ) → c < 16 → t < 512 → get_or (sheet_words s) (512 * c + t) 0 ≡ s c t
sheet_at s c t h l =
    let row : (512 * c + t) / 512 ≡ c = omega arith in
    let tick : (512 * c + t) % 512 ≡ t = omega arith in
    word_at s (512 * c + t) (omega arith) ∙ ap (λ k. s k ((512 * c + t) % 512)) row ∙ ap (s c) tick

pub sheet_is : (words : List ℕ) (s : Sheet) → length words ≡ 8192 → ((i : ℕ) → i < 8192 → get_or words i 0 ≡ s (i / 512) (i % 512)) → words ≡ sheet_words s
unfolding sheet_words
sheet_is words s long each =
    ext_get_or 0 words (sheet_words s) (long ∙ sym (list_long 8192 (λ i. s (i / 512) (i % 512))))
    (λ i h. let l : i < 8192 = omega arith in each i l ∙ sym (word_at s i l))

pub word_is : (s : Sheet) {words : List ℕ} → words ≡ sheet_words s → (i : ℕ) → i < 8192 → get_or words i 0 ≡ s (i / 512) (i % 512)
word_is s e i h = ap (λ ws. get_or ws i 0) e ∙ word_at s i h

pub sheet_long : (s : Sheet) {words : List ℕ} → words ≡ sheet_words s → length words ≡ 8192
unfolding sheet_words
sheet_long s e = ap length e ∙ list_long 8192 (λ i. s (i / 512) (i % 512))

-- The words that hold a sheet have its currents, its drop and its quiet tick.

sheet_held : (s : Sheet) {words : List ℕ} → words ≡ sheet_words s → (c t : ℕ) → c < 16 → t < 512 → sheet_in words c t ≡ s c t
sheet_held s e c t h l = ap (λ ws. get_or ws (512 * c + t) 0) e ∙ sheet_at s c t h l

pub drop_of_words : (table : List ℕ) (s : Sheet) {words : List ℕ} → words ≡ sheet_words s → drop_of table (sheet_in words) ≡ drop_of table s
drop_of_words table s {words} e = drop_same table (sheet_in words) s (sheet_held s e)

pub quiet_of_words : (s : Sheet) {words : List ℕ} → words ≡ sheet_words s → quiet_tick (sheet_in words) ≡ quiet_tick s
quiet_of_words s {words} e = quiet_same (sheet_in words) s (sheet_held s e)

-- No word of a sheet is above that of a sheet that is nowhere below it.
pub words_at_most : (s s' : Sheet) → ((c t : ℕ) → s c t ≤ s' c t) → (i : ℕ) → get_or (sheet_words s) i 0 ≤ get_or (sheet_words s') i 0
unfolding sheet_words
words_at_most s s' less i = pairs_at ◌≤◌ (pairs_list ◌≤◌ 8192 _ _ (λ k h. less (k / 512) (k % 512))) 0 0 (omega arith) i
