-- The waveform that the code writes for a gate is the definition's.
-- Assumes nothing.
use Prim.Native.Nat.{ℕ, ◌+◌, ◌-◌, ◌/◌, ◌≤◌, ◌<◌}
use mathlib.Core.List.{List}
use mathlib.Core.Path.{◌≡◌, ap, sym, ◌∙◌}
use native.Mathlib.Omega.{arith}
use lib.Dec.{ltb}
use lib.ListN.{get_or}
use borrow.Table.Steps.{cases}
use Rattle.laws.specs.Settled.{SettledAfter}
use Rattle.laws.proofs.Below.{max_at}
use Rattle.laws.proofs.Turn.{list_at, list_long, list_same}
use Rattle.excitation.specs.UncertaintySet.{UncertaintySet, decode, empty}
use Rattle.block.specs.View.{pin_of}
use Rattle.block.specs.declared.Gate.{Gate}
use Rattle.fill.specs.Fill.{filled}
use Rattle.fill.specs.Filling.{sets_in, Filled}
use Rattle.fill.proofs.Filled.{filled_last}
use Rattle.parts.specs.declared.Part.{Part}
use Rattle.rows.specs.Rows.{set_in, RowMade}
use Rattle.waveform.specs.Pins.{made_before, made_at, PartIs, raw_at, RowReady}
use Rattle.waveform.specs.Rows.{waveform_in, waveforms_in, last_in, latest_in, pins_last_in, EndsWritten, LastChange, Ready, GateMade}
use Rattle.waveform.specs.Waveform.{Waveform, earlier, envelope, gate_from, pin_waveform, gate_at, gate_waveform}
use Rattle.waveform.proofs.Gates.{gate_same}
use Rattle.waveform.proofs.Raw.{made_settled, raw_settled, raw_end}
use Rattle.waveform.proofs.Rows.{pin_rows, pins_soon}
use Rattle.waveform.proofs.Waveforms.{waveform_is}
use Rattle.waveform.proofs.Written.{row_others, filled_others, others_then, settled_as}

-- Filling leaves the set at the last tick as it was.
last_kept : {hops bound net : ℕ} {given after : List ℕ} → Filled hops bound net given after → set_in after net 255 ≡ set_in given net 255
last_kept {hops} {bound} {net} {given} {after} fills =
    sym (list_at 256 (set_in after net) 255 empty (omega arith)) ∙ ap (λ xs. get_or xs 255 empty) fills.sets
    ∙ filled_last hops (sets_in given net) (list_long 256 (set_in given net)) ∙ list_at 256 (set_in given net) 255 empty (omega arith)

module _ (net : ℕ) (gate : Gate) (work : List ℕ) (ready : Ready net gate work) where
  -- Every pin is settled after the tick that the code finds, so the gate is once its delay has passed.

  pin_settled : (p : ℕ) → p < gate.used → SettledAfter (pins_last_in gate work) (set_in work (pin_of gate p))
  unfolding pins_last_in
  pin_settled p h =
      let most = max_at gate.used (λ p. last_in work (pin_of gate p)) p h in
      record { same = λ t l q. (ready.settled p h).settled.same t (omega arith) q }

  module _ (latest last : ℕ) (l : latest ≡ latest_in gate work) (e : last ≡ pins_last_in gate work) where
    -- It arrives in time, and settles no later than it arrives.
    pub in_time : (last + gate.delay ≤ latest + gate.delay) × (latest + gate.delay ≤ 255)
    in_time = (omega (arith, pins_soon ready, e, l), omega (arith, ready.in_time, l))

    -- The pins are joined in enough parts.
    pub row_ready : RowReady net gate ((last + 1) / 64 + 1) work
    row_ready =
        let low = ready.checked.ranges.delay_low in
        let most = in_time in
        let made : SettledAfter last (made_at gate work) = rw e (made_settled gate work (pins_last_in gate work) ready.checked.pins_low pin_settled) in
        record {
          pins = pin_rows ready;
          room = ready.room;
          delay_low = low;
          delay_high = omega (arith, ready.checked.ranges.delay_high);
          some = omega arith;
          few = omega (arith, low, most.0, most.1);
          settled = record { same = λ t h q. made.same t (omega arith) q };
        }

    pub row_settled : (made : List ℕ) → RowMade (raw_at gate work) net 256 work made → SettledAfter (last + gate.delay) (set_in made net)
    row_settled made row =
        settled_as row.sets (rw e (raw_settled gate work (pins_last_in gate work) ready.checked.pins_low pin_settled))

    -- One that does not arrive at the last tick has there the set at which it settles, filled or not.
    pub row_end : {hops bound : ℕ} {settled : Part} (made full : List ℕ) → RowMade (raw_at gate work) net 256 work made → Filled hops bound net made full
        → PartIs (λ t. made_at gate work 255) 0 settled → latest + gate.delay < 255 → PartIs (λ t. set_in full net 255) 0 settled
    row_end made full row fills settled soon =
        let most = in_time in
        let raw = raw_end gate work (pins_last_in gate work) ready.checked.pins_low pin_settled (omega arith) (omega (arith, e)) in
        record { at = λ k h. settled.at k h ∙ sym raw ∙ sym (row.sets 255 (omega arith)) ∙ sym (last_kept fills) }

-- The waveform, whatever the hop limit is.
module _ (hops net : ℕ) (gate : Gate) (work : List ℕ) (ready : Ready net gate work) where
  abbrev below : List (Waveform UncertaintySet)
  below = waveforms_in work net

  on_pin_lem : (p : ℕ) → p < gate.used → pin_waveform (envelope hops) gate below p ≡ waveform_in work (pin_of gate p)
  unfolding pin_waveform waveforms_in
  on_pin_lem p h = list_at net (waveform_in work) (pin_of gate p) _ (ready.checked.pin_below p h)

  before_is : made_before gate work ≡ gate_from (envelope hops) gate (λ p. (pin_waveform (envelope hops) gate below p).before)
  unfolding made_before gate_from waveform_in
  before_is = gate_same (envelope hops) gate _ _ ready.checked.pins_low (λ p h. ap (λ w. w.before) (sym (on_pin_lem p h)))

  made_is : (t : ℕ) → t < 256
      → made_at gate work t ≡ gate_from (envelope hops) gate (λ p. let w = pin_waveform (envelope hops) gate below p in get_or w.ticks t w.before)
  unfolding made_at gate_from waveform_in
  made_is t h =
      gate_same (envelope hops) gate _ _ ready.checked.pins_low
      (λ p q. sym (list_at 256 (set_in work (pin_of gate p)) t _ h) ∙ ap (λ w. get_or w.ticks t w.before) (sym (on_pin_lem p q)))

  raw_is : (t : ℕ) → t < 256 → raw_at gate work t ≡ gate_at (envelope hops) gate below t
  unfolding gate_at earlier
  raw_is t h = cases (ltb t gate.delay) (λ b. rw b before_is) (λ b. rw b (made_is (t - gate.delay) (omega arith)))

  module _ (bound before arrival last : ℕ) (made full after : List ℕ) (first : decode before ≡ made_before gate work)
      (row : RowMade (raw_at gate work) net 256 work made) (fills : Filled hops bound net made full)
      (arrives : arrival ≡ latest_in gate work + gate.delay) (change : LastChange arrival (set_in full net) last)
      (ends : EndsWritten net before arrival last full after) where
    gate_waveform_lem : waveform_in after net ≡ gate_waveform (envelope hops) gate below
    unfolding waveform_in gate_waveform
    gate_waveform_lem =
        waveform_is _ _ (ap decode ends.earliest ∙ first ∙ before_is)
        (list_same 256 _ _ empty ends.sets ∙ fills.sets ∙ ap (filled hops) (list_same 256 _ _ empty (λ t h. row.sets t h ∙ raw_is t h)))

    pub gate_made : GateMade net gate hops work after
    gate_made = record {
      others = others_then (row_others row) (others_then (filled_others fills) ends.others);
      waveform = gate_waveform_lem;
      arrives = ends.arrives ∙ arrives;
      settled = record {
        soon = omega (arith, ends.settles, ends.arrives, change.soon);
        settled = rw ends.settles (settled_as ends.sets change.after);
      };
      at_end = λ e. ends.settles ∙ change.at_end (sym ends.arrives ∙ e);
    }
