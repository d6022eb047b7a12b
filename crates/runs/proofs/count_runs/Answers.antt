-- `runs::count_runs` meets its contract.
-- Assumes nothing.
use Prim.Native.Nat.{◌+◌, ◌*◌}
use mathlib.Core.Path.{sym, subst, ◌∙◌}
use native.Mathlib.Omega.{arith}
use lib.Count.{ones}
use lib.ListN.{get_or, take}
use Rattle.std.proofs.lemmas.List.{length-take, get_or-take}
use Rattle.bits.specs.Bits.{row_bit}
use Rattle.runs.proofs.Begins.{Counted, StartsOf, counted_none, counted_few, counted_more, settled_count}
use Rattle.runs.proofs.count_runs.Goals as goal

-- What a turn counts: its word is one of the row.
counted : (c : goal.After-starts)
    → Counted c.args.row.now (c.loop-word.word-index + 1) (c.loop-word.count + ones c.starts.result) (get_or (take c.words_until.result c.args.row.now) c.loop-word.word-index 0)
counted c =
    let of_row = sym (get_or-take c.words_until.result c.args.row.now c.loop-word.word-index 0 (omega (arith, length-take c.words_until.result c.args.row.now))) in
    subst (λ word. StartsOf word c.loop-word.before c.starts.result → Counted c.args.row.now (c.loop-word.word-index + 1) (c.loop-word.count + ones c.starts.result) word) of_row
    (counted_more _ _ _ _ _ c.loop-word.invariant c.starts.type_inv) c.starts.ensures

pub loop-word-init : goal.loop-word-init
loop-word-init c = counted_none _

pub overflow_add-count : goal.overflow_add-count
overflow_add-count c = omega (arith, counted_few (counted c), length-take c.words_until.result c.args.row.now)

pub loop-word-preserved : goal.loop-word-preserved
loop-word-preserved c = counted c

pub returns : goal.returns
returns c =
    let all = length-take c.words_until.result c.args.row.now in
    c.loop-word.invariant.begun
    ∙ settled_count (row_bit c.args.row.now) c.args.last c.requires (64 * c.loop-word.word-index) (omega arith) (omega arith)
