-- Checks of the arguments beside the file (document 01, "Refusals in checking order"), by the lengths of what is lent. Each test
-- passes where its refusal does not hold.
use Rattle.block.specs.declared.verdict.Reason.TheVariants.{WrongHopLimit, WrongTable, WrongRatio, WrongBudget, WrongBuffer}
use Rattle.std.specs.Prelude.{ℕ, ◌+◌, ◌*◌, ◌%◌, Bool, ◌&&◌, eqb, leb}
use Rattle.block.specs.Refusals.{within}
use Rattle.block.specs.Verdict.{Check, check}

-- 11. The hop limit is not 1 to 16.
abbrev pub hops_check : ℕ → Check
hops_check hops = check WrongHopLimit 0 (within 1 16 hops)

-- 12. The table's length is not a multiple of 16 from 16 to 256.
abbrev pub table_right : ℕ → Bool
table_right n = within 16 256 n && eqb (n % 16) 0

abbrev pub table_check : ℕ → Check
table_check n = check WrongTable 0 (table_right n)

-- 13. The ratio is not 1,000 to 10,000.
abbrev pub ratio_check : ℕ → Check
ratio_check ratio = check WrongRatio 0 (within 1000 10000 ratio)

-- 14. The budget exceeds 10,000.
abbrev pub budget_check : ℕ → Check
budget_check budget = check WrongBudget 0 (leb budget 10000)

-- 15. A lent buffer has the wrong size: place 1 the sheet (exactly 8,192 words of 32 bits), 2 the pattern (exactly 64 bytes), 3 the work
-- buffer (at least 160 bytes a net), 4 the case store (at least 72 × (1 + 3 × budget) bytes).
abbrev pub sheet_check : ℕ → Check
sheet_check n = check WrongBuffer 1 (eqb n 8192)

abbrev pub pattern_check : ℕ → Check
pattern_check n = check WrongBuffer 2 (eqb n 64)

abbrev pub work_check : ℕ → ℕ → Check
work_check nets n = check WrongBuffer 3 (leb (160 * nets) n)

abbrev pub store_check : ℕ → ℕ → Check
store_check budget n = check WrongBuffer 4 (leb (72 * (1 + 3 * budget)) n)
