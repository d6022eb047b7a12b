-- `current::shape::make_shape` meets its contract.
-- Assumes nothing.
use mathlib.Core.Bool.{false≢true}
use Rattle.std.proofs.Common.{◌+◌, ◌-◌, ◌<◌, sym, refl, ◌∙◌, arith, rules}
use Rattle.current.specs.Levels.{level_by}
use Rattle.current.proofs.Pulses.{rise_level, fall_level, pulse_most}
use Rattle.current.proofs.Runs.{written_by, shape_made}
use Rattle.current.proofs.shape.make_shape.Goals as goal

pub write_steps-requires : goal.write_steps-requires
write_steps-requires c =
    let ready = c.requires.1 in
    let range = ready.range in
    let high = range.peak_high in (
      omega (arith, c.requires.0, range.rise_high),
      λ k h. let few : k < 128 = omega (arith, range.rise_high) in
          let fits : level_by c.args.pulse.peak c.args.factors.rising k < 65536 = omega (arith, rise_level ready k h refl, pulse_most range k, high) in
          search rules,
    )

pub write_steps-requires-2 : goal.write_steps-requires-2
write_steps-requires-2 c =
    let ready = c.requires.1 in
    let range = ready.range in
    let high = range.peak_high in (
      omega (arith, c.requires.0, range.rise_high, range.fall_high),
      λ k h. let steps = c.args.pulse.fall - k in
          let few : steps < 128 = omega (arith, range.fall_high) in
          let fits : level_by c.args.pulse.peak c.args.factors.falling steps < 65536 =
          omega (arith, fall_level ready k (omega arith) refl, pulse_most range (c.args.pulse.rise + k), high) in
          search rules,
    )

pub returns : goal.returns
returns c =
    let ready = c.requires.1 in
    let rise = written_by _ (λ k made h m. rise_level ready k h (search rules)) c.write_steps.ensures in
    let fall = written_by _ (λ k made h m. fall_level ready k (omega arith) (search rules)) c.write_steps-2.ensures in
    record {
      long = fall.long ∙ rise.long;
      made = λ e. shape_made _ _ _ _ rise fall;
      kept = λ e. absurd (false≢true (sym e ∙ c.if-not-needed.false));
    }
