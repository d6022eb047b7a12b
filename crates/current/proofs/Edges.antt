-- One pass over a gate's ticks: that a step over the next run adds the pulses which its ticks allow.
-- Assumes nothing.
use Rattle.std.proofs.Common.{◌≡◌, ℕ, ◌+◌, ◌-◌, ◌<◌, ◌≤◌, Bool, true, false, not, ◌&&◌, List, length, replicate, sym, refl, ap, ◌∙◌, inl, inr, le_refl, arith}
use mathlib.Core.Bool.{and-true, false≢true}
use borrow.Table.Steps.{cases}
use Rattle.laws.specs.Below.{sum_between}
use Rattle.laws.proofs.Below.{sum_same, between_append, between_none, between_same}
use Rattle.laws.proofs.Lists.{replicate_at}
use Rattle.bits.specs.Bits.{row_bit}
use Rattle.block.specs.Limits.{peak_limit}
use Rattle.block.specs.declared.Gate.{Gate}
use Rattle.sheet.proofs.Changes.{added_none, added_same, added_both}
use Rattle.current.specs.Current.{edge_pulse}
use Rattle.current.specs.Edges.{of_peak, peak_of, pulse_of, PulseFields, GateEdges, pulse_by_rows, Passed, NoTick, Without, TicksByPeak, NextRun, NoRun, place_of, ShapesMade}
use Rattle.current.specs.declared.edge.Peak.{Peak}
use Rattle.current.specs.declared.edge.Peak.TheVariants.{Greater, Lower}
use Rattle.current.specs.declared.edge.Run.{Run}
use Rattle.current.specs.declared.level.Pulse.{Pulse}
use Rattle.current.specs.Levels.{InRange, factor_of, Factored}
use Rattle.current.specs.Pulse.{pulse_at}
use Rattle.current.specs.Runs.{ShapeMade, Shaped, RunDrawn}
use Rattle.current.proofs.Pulses.{pulse_at_grows, same_age}
use Rattle.current.proofs.Runs.{shaped, shape_kept}

-- What a gate's fields give to the drawing of its pulses.
module _ {gate : Gate} (fields : PulseFields gate) where
  pub range_of : (P : ℕ) → P < peak_limit → InRange P gate.rise gate.fall
  range_of P high =
      let ranges = fields.ranges in
      record {
        peak_high = high;
        rise_low = ranges.rise_low;
        rise_high = (let rise = ranges.rise_high in omega arith);
        fall_low = ranges.fall_low;
        fall_high = (let fall = ranges.fall_high in omega arith);
      }

  peak_high : (peak : Peak) → peak_of gate peak < peak_limit
  unfolding peak_of
  peak_high Greater = let lh_high = fields.fits.peak_lh_high in let hl_high = fields.fits.peak_hl_high in omega arith
  peak_high Lower = let lh_high = fields.fits.peak_lh_high in let hl_high = fields.fits.peak_hl_high in omega arith

  pub in_range : (peak : Peak) → InRange (peak_of gate peak) gate.rise gate.fall
  in_range peak = range_of (peak_of gate peak) (peak_high peak)

  pub factored : (peak : Peak) {pulse : Pulse} {rising falling : ℕ} → pulse ≡ pulse_of gate peak → rising ≡ factor_of gate.rise
      → falling ≡ factor_of gate.fall → Factored pulse.peak pulse.rise pulse.fall rising falling
  factored peak e rise fall = rw e (record { range = in_range peak; rising_by = rise; falling_by = fall })

  sorted : peak_of gate Lower ≤ peak_of gate Greater
  unfolding peak_of
  sorted = omega arith

-- Both places leave room for a whole shape.
pub place_low : (peak : Peak) → place_of peak ≤ 264
unfolding place_of
place_low Greater = omega arith
place_low Lower = omega arith

-- A row with a tick is one in which the code finds some.
tick_found : (some : Bool) (ticks : List ℕ) → (some ≡ false → NoTick ticks) → (x : ℕ) → x < 256 → row_bit ticks x ≡ true → some ≡ true
tick_found some ticks none x h held = cases some (λ b. b) (λ b. absurd (false≢true (sym (none b x h) ∙ held)))

-- The shapes that a run needs are made.
module _ {gate : Gate} (fields : PulseFields gate) {zeros first second : List ℕ} {some some_lower : Bool} (empty : zeros ≡ replicate 528 0)
    (one : ShapeMade some (peak_of gate Greater) gate.rise gate.fall (place_of Greater) zeros first)
    (other : ShapeMade some_lower (peak_of gate Lower) gate.rise gate.fall (place_of Lower) first second) where
  all_long : length second ≡ 528
  all_long = other.long ∙ one.long ∙ ap length empty

  greater_shaped : some ≡ true → Shaped (peak_of gate Greater) gate.rise gate.fall (place_of Greater) second
  unfolding place_of
  greater_shaped needed =
      let shape = shaped (in_range fields Greater) (omega arith) (one.long ∙ ap length empty) (λ k l. rw empty (replicate_at 528 (0 + k) 0)) (one.made needed) in
      record { long = all_long; low = omega arith; at = λ k l. shape_kept other (0 + k) (inl (omega arith)) ∙ shape.at k l }

  lower_shaped : some_lower ≡ true → Shaped (peak_of gate Lower) gate.rise gate.fall (place_of Lower) second
  unfolding place_of
  lower_shaped needed =
      let rise = fields.ranges.rise_high in
      let fall = fields.ranges.fall_high in
      shaped (in_range fields Lower) (omega arith) all_long
      (λ k l. shape_kept one (264 + k) (inr (omega arith)) ∙ rw empty (replicate_at 528 (264 + k) 0)) (other.made needed)

  pub shapes_made : (greater lower : List ℕ) → (some ≡ false → NoTick greater) → (some_lower ≡ false → NoTick lower) → ShapesMade gate greater lower second
  shapes_made greater lower none no_lower = record { long = all_long; made = made_for }
    where
      made_for : (peak : Peak) (x : ℕ) → x < 256 → row_bit (of_peak peak greater lower) x ≡ true
          → Shaped (peak_of gate peak) gate.rise gate.fall (place_of peak) second
      made_for Greater x h held = greater_shaped (tick_found some greater none x h held)
      made_for Lower x h held = lower_shaped (tick_found some_lower lower no_lower x h held)

-- An edge that a tick allows, and one that it does not.
module _ (gate : Gate) (P : ℕ) (x t : ℕ) where
  pub edge_allowed : {allowed : Bool} → allowed ≡ true → edge_pulse gate P allowed x t ≡ pulse_at P gate.rise gate.fall gate.delay x t
  unfolding edge_pulse
  edge_allowed e = rw e refl

  pub edge_not_allowed : {allowed : Bool} → allowed ≡ false → edge_pulse gate P allowed x t ≡ 0
  unfolding edge_pulse
  edge_not_allowed e = rw e refl

  pub edge_at_most : (allowed : Bool) → edge_pulse gate P allowed x t ≤ pulse_at P gate.rise gate.fall gate.delay x t
  unfolding edge_pulse
  edge_at_most true = le_refl _
  edge_at_most false = omega arith

-- The greater pulse that a tick allows is that of one peak: none, the lower or the greater.
module _ (gate : Gate) (greater lower : List ℕ) (x t : ℕ) where
  pub none_allowed : row_bit greater x ≡ false → row_bit lower x ≡ false → pulse_by_rows gate greater lower x t ≡ 0
  unfolding pulse_by_rows
  none_allowed none no_lower =
      let one = edge_not_allowed gate (peak_of gate Greater) x t none in
      let other = edge_not_allowed gate (peak_of gate Lower) x t no_lower in
      omega arith

  greater_allowed : PulseFields gate → row_bit greater x ≡ true
      → pulse_by_rows gate greater lower x t ≡ pulse_at (peak_of gate Greater) gate.rise gate.fall gate.delay x t
  unfolding pulse_by_rows
  greater_allowed fields held =
      let one = edge_allowed gate (peak_of gate Greater) x t held in
      let other = edge_at_most gate (peak_of gate Lower) x t (row_bit lower x) in
      let less = pulse_at_grows (in_range fields Greater) (sorted fields) gate.delay x t in
      omega arith

  lower_allowed : row_bit greater x ≡ false → row_bit lower x ≡ true
      → pulse_by_rows gate greater lower x t ≡ pulse_at (peak_of gate Lower) gate.rise gate.fall gate.delay x t
  unfolding pulse_by_rows
  lower_allowed none held =
      let one = edge_not_allowed gate (peak_of gate Greater) x t none in
      let other = edge_allowed gate (peak_of gate Lower) x t held in
      omega arith

  peak_allowed : PulseFields gate → (row_bit lower x ≡ true → row_bit greater x ≡ false) → (peak : Peak) → row_bit (of_peak peak greater lower) x ≡ true
      → pulse_by_rows gate greater lower x t ≡ pulse_at (peak_of gate peak) gate.rise gate.fall gate.delay x t
  peak_allowed fields apart Greater held = greater_allowed fields held
  peak_allowed fields apart Lower held = lower_allowed (apart held) held

-- Where the greater peak is allowed, the lower one may be left out.
module _ {gate : Gate} (fields : PulseFields gate) {greater lower alone : List ℕ} (without : Without lower greater alone) where
  same_allowed : (x t : ℕ) → row_bit alone x ≡ row_bit lower x → pulse_by_rows gate greater alone x t ≡ pulse_by_rows gate greater lower x t
  unfolding pulse_by_rows
  same_allowed x t e = rw e refl

  alone_allowed : (x t : ℕ) → x < 256 → pulse_by_rows gate greater alone x t ≡ pulse_by_rows gate greater lower x t
  alone_allowed x t h =
      cases (row_bit greater x)
      (λ held. greater_allowed gate greater alone x t fields held ∙ sym (greater_allowed gate greater lower x t fields held))
      (λ none. same_allowed x t (without.at x h ∙ ap (λ b. row_bit lower x && not b) none ∙ and-true (row_bit lower x)))

  -- So the pass by the ticks at which the lower peak is alone is the pass over all ticks: none before the gate's delay allows an edge.
  pub passed_all : {words after : List ℕ} → GateEdges gate greater lower → Passed gate greater alone gate.delay 256 words after
      → Passed gate greater lower 0 256 words after
  passed_all edges passed =
      let late : gate.delay ≤ 256 = edges.greater_from.in_time in
      added_same _ _
      (λ t h.
      let early = between_none 0 gate.delay (λ x. pulse_by_rows gate greater lower x t)
      (λ x _ l. none_allowed gate greater lower x t (edges.greater_from.before x l) (edges.lower_from.before x l)) in
      let whole = between_append 0 gate.delay 256 (λ x. pulse_by_rows gate greater lower x t) (omega arith) late in
      let same = between_same gate.delay 256 (λ x. pulse_by_rows gate greater alone x t) (λ x. pulse_by_rows gate greater lower x t)
      (λ x _ l. alone_allowed x t l) in
      omega arith)
      passed

-- The pass, run by run: nothing where it begins, then a run more, then nothing more.
module _ (gate : Gate) (greater lower : List ℕ) where
  pub passed_none : (from : ℕ) {words : List ℕ} → Passed gate greater lower from from words words
  passed_none from = added_same _ _ (λ t h. sym (between_none from from _ (λ x low high. absurd (omega arith)))) added_none

  pub passed_more : {from to next : ℕ} {words between after : List ℕ} → from ≤ to → to ≤ next → Passed gate greater lower from to words between
      → Passed gate greater lower to next between after → Passed gate greater lower from next words after
  passed_more {from} {to} {next} low high first second =
      added_same _ _ (λ t h. sym (between_append from to next (λ x. pulse_by_rows gate greater lower x t) low high)) (added_both _ _ first second)

  pub passed_rest : {from : ℕ} {words : List ℕ} → NoRun greater lower from → Passed gate greater lower from 256 words words
  passed_rest {from} none =
      added_same _ _
      (λ t h. sym (between_none from 256 _ (λ x low l. let no_tick = none x low l in none_allowed gate greater lower x t no_tick.0 no_tick.1)))
      added_none

-- A step of the pass: a run is drawn.
module _ {gate : Gate} {greater lower all : List ℕ} {from : ℕ} {run : Run} {words after : List ℕ} (fields : PulseFields gate)
    (ticks : TicksByPeak greater lower all) (late : gate.delay ≤ from) (next : NextRun greater lower from run)
    (drawn : RunDrawn (peak_of gate run.peak) gate.rise gate.fall gate.contact (run.first - gate.delay) (run.end - 1 - gate.delay + 1) words after) where
  abbrev allowed : ℕ → ℕ → ℕ
  allowed t x = pulse_by_rows gate greater lower x t

  inside : (x t : ℕ) → run.first ≤ x → x < run.end
      → allowed t x ≡ pulse_at (peak_of gate run.peak) gate.rise gate.fall 0 (x - gate.delay) t
  inside x t low h =
      let high = next.high in
      let begun = next.low in
      peak_allowed gate greater lower x t fields (ticks.apart x (omega arith)) run.peak (next.inside x low h)
      ∙ same_age (peak_of gate run.peak) gate.rise gate.fall gate.delay x t 0 (x - gate.delay) t (omega arith)

  run_allowed : (t : ℕ) → sum_between (run.first - gate.delay) (run.end - 1 - gate.delay + 1) (λ x. pulse_at (peak_of gate run.peak) gate.rise gate.fall 0 x t)
      ≡ sum_between run.first run.end (allowed t)
  unfolding sum_between
  run_allowed t =
      let begun = next.low in
      let count : run.end - 1 - gate.delay + 1 - (run.first - gate.delay) ≡ run.end - run.first = omega arith in
      rw count
      (sum_same (run.end - run.first) _ _
      (λ k h. let place : run.first - gate.delay + k ≡ run.first + k - gate.delay = omega arith in
      rw place (sym (inside (run.first + k) t (omega arith) (omega arith)))))

  pub passed_run : Passed gate greater lower from run.end words after
  passed_run =
      added_same _ _
      (λ t h.
      let some = next.some in
      let before = between_none from run.first (allowed t)
      (λ x low l. let none = next.before x low l in none_allowed gate greater lower x t none.0 none.1) in
      let whole = between_append from run.first run.end (allowed t) next.low (omega arith) in
      omega (arith, run_allowed t))
      drawn
