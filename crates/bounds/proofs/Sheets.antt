-- Laws of the sheet of a search: a case drawn, a sheet raised to another, and the greatest over the cases drawn so far.
-- Assumes nothing.
use Prim.Native.Nat.{ℕ, ◌+◌, ◌*◌, ◌/◌, ◌%◌, max}
use mathlib.Core.List.{List}
use mathlib.Core.Path.{◌≡◌, ap, sym, ◌∙◌}
use lib.ListN.{get_or, take, drop}
use Rattle.laws.specs.Below.{max_below}
use Rattle.laws.specs.Rewritten.{Rewritten}
use Rattle.laws.proofs.Below.{max_next, max_same}
use Rattle.laws.proofs.Rewritten.{rewritten_first}
use Rattle.block.specs.Record.{File}
use Rattle.sheet.specs.Sheet.{Sheet, sheet_words}
use Rattle.sheet.specs.Words.{Cleared}
use Rattle.sheet.proofs.Sheets.{word_is, sheet_long, sheet_is}
use Rattle.evaluation.specs.Evaluation.{simulated_sheet, envelope_sheet}
use Rattle.evaluation.specs.declared.Setting.{Setting}
use Rattle.cases.specs.Case.{Case, evaluation_of}
use Rattle.cases.specs.Records.{cases_in, case_in}
use Rattle.cases.specs.Search.{sets_at, cases_sheet}
use Rattle.cases.proofs.Records.{sets_copied, cases_long, sets_at_lem}
use Rattle.bounds.specs.Bounds.{sheet_over, CaseEvaluated}

-- The sheet of case k of a store.
abbrev pub sheet_of_case : File → ℕ → ℕ → List ℕ → ℕ → Sheet
sheet_of_case file hops inputs store k = evaluation_of (simulated_sheet file) (envelope_sheet hops file) (case_in inputs store k).sets

-- A case drawn, from its sets as they were copied from the store.
pub case_drawn : (setting : Setting) (store : List ℕ) (k : ℕ) {codes : List ℕ} {upper : ℕ} {sheet : List ℕ}
    → codes ≡ take 64 (drop (72 * k) store) → CaseEvaluated setting codes upper sheet
    → sheet ≡ sheet_words (sheet_of_case setting.file.now setting.hops setting.inputs store k)
case_drawn setting store k {codes} copied evaluated =
    let file = setting.file.now in
    evaluated.written
    ∙ ap (λ case. sheet_words (evaluation_of (simulated_sheet file) (envelope_sheet setting.hops file) case)) (sets_copied setting.inputs setting.accepted.few_inputs store k codes copied)

-- A sheet raised to another, word by word.

abbrev pub raised : List ℕ → List ℕ → ℕ → ℕ
raised sheet other i = max (get_or sheet i 0) (get_or other i 0)

-- The greatest, at each place, over the first n cases of a store.

module _ (file : File) (hops inputs : ℕ) (store : List ℕ) where
  unfoldable pub sheet_below : ℕ → Sheet
  sheet_below n c t = max_below n (λ k. sheet_of_case file hops inputs store k c t)

  pub none_drawn : (words : List ℕ) → Cleared words → words ≡ sheet_words (sheet_below 0)
  unfolding sheet_below max_below
  none_drawn words cleared = sheet_is words (sheet_below 0) cleared.long (λ i h. cleared.at i)

  pub next_drawn : (k : ℕ) (sheet one after : List ℕ) → sheet ≡ sheet_words (sheet_below k) → one ≡ sheet_words (sheet_of_case file hops inputs store k)
      → Rewritten (raised sheet one) 0 8192 sheet after → after ≡ sheet_words (sheet_below (k + 1))
  unfolding sheet_below
  next_drawn k sheet one after so_far drawn written =
      sheet_is after (sheet_below (k + 1)) (written.long ∙ sheet_long (sheet_below k) so_far)
      (λ i h. rewritten_first (raised sheet one) 8192 sheet after written i h
      ∙ ap (λ x. max x (get_or one i 0)) (word_is (sheet_below k) so_far i h)
      ∙ ap (λ x. max (sheet_below k (i / 512) (i % 512)) x) (word_is (sheet_of_case file hops inputs store k) drawn i h)
      ∙ sym (max_next k (λ j. sheet_of_case file hops inputs store j (i / 512) (i % 512))))

  evaluation_at : (n c t : ℕ) → sheet_below n c t ≡ sheet_over file hops (cases_in inputs store n) c t
  unfolding sheet_below cases_sheet
  evaluation_at n c t =
      let taken : Case → ℕ = λ case. evaluation_of (simulated_sheet file) (envelope_sheet hops file) case c t in
      max_same n _ _ (λ k l. ap taken (sym (sets_at_lem inputs store n k l)))
      ∙ ap (λ m. max_below m (λ k. taken (sets_at (cases_in inputs store n) k))) (sym (cases_long inputs store n))

  pub all_drawn : (n : ℕ) {words : List ℕ} → words ≡ sheet_words (sheet_below n) → words ≡ sheet_words (sheet_over file hops (cases_in inputs store n))
  all_drawn n {words} e =
      sheet_is words (sheet_over file hops (cases_in inputs store n)) (sheet_long (sheet_below n) e)
      (λ i h. word_is (sheet_below n) e i h ∙ evaluation_at n (i / 512) (i % 512))
