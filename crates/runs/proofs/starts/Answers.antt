-- `runs::starts` meets its contract.
-- Assumes nothing.
use borrow.Author.Rules.{rules}
use mir.Syntax.{w64}
use mir.Val.{Fits}
use Rattle.runs.proofs.Begins.{starts_by_shift}
use Rattle.runs.proofs.starts.Goals as goal

pub returns : goal.returns
returns c = let fit : Fits w64 c.args.before = search rules in starts_by_shift _ _ fit.fits
