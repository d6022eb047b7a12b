-- `bounds::draw::draw_cases` meets its contract.
-- Assumes nothing.
use mathlib.Core.Path.{◌≡◌}
use lib.ListN.{length}
use Rattle.sheet.specs.Sheet.{sheet_words}
use Rattle.bounds.proofs.Sheets.{sheet_below}
use Rattle.bounds.proofs.draw.draw_cases.Given as goal

abbrev pub invariant-loop-k : goal.invariant-loop-k
invariant-loop-k l = (length l.work ≡ length l.initial.work) × (length l.one ≡ 8192) × (l.sheet ≡ sheet_words (sheet_below l.setting.file.now l.setting.hops l.setting.inputs l.store l.k))
