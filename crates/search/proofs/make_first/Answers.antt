-- `search::make_first` meets its contract.
-- Assumes nothing.
use native.Mathlib.Omega.{arith}
use Rattle.cases.proofs.Frames.{frame_coded}
use Rattle.bounds.specs.Bounds.{pattern_drop, case_drop, own_upper}
use Rattle.search.proofs.First.{first_made}
use Rattle.search.proofs.make_first.Goals as goal

pub make_case-requires : goal.make_case-requires
make_case-requires c =
    let file = c.args.setting.accepted in (
      c.requires.0,
      frame_coded file c.frame_codes.ensures,
      c.requires.1,
      record { whole = omega (arith, c.requires.2); numbered = omega arith },
    )

pub returns : goal.returns
unfolding own_upper
returns c =
    let setting = c.args.setting in
    let made = c.make_case.ensures in
    first_made (pattern_drop setting) (case_drop setting) setting.accepted c.frame_codes.ensures (omega arith) made.stored made.upper_low
    made.drop_low (made.reached (omega arith)) c.requires.1 c.requires.2
