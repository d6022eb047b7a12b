-- `evaluation::Setting::draw` meets its contract. The loop's invariant: the nets passed are evaluated, and the settling tick is theirs.
-- Assumes nothing.
use Prim.Native.Nat.{◌<◌}
use mathlib.Core.Path.{◌≡◌}
use lib.ListN.{length}
use Rattle.laws.specs.Below.{max_below}
use Rattle.excitation.specs.UncertaintySet.{sets_in}
use Rattle.evaluation.proofs.Drawing.{Evaluating}
use Rattle.evaluation.proofs.Settling.{net_settling}
use Rattle.evaluation.proofs.Setting.draw.Given as goal

abbrev pub invariant-loop-net : goal.invariant-loop-net
invariant-loop-net l =
    (length l.work ≡ length l.initial.work)
    × Evaluating l.self.file.now l.self.hops (sets_in l.self.inputs l.codes) l.net l.work l.sheet
    × (l.settling ≡ max_below l.net (net_settling l.self.file.now)) × (l.settling < 511)
