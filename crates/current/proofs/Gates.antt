-- What drawing a gate from the rows of its edges does to the currents of a sheet.
-- Assumes nothing.
use Rattle.std.proofs.Common.{◌≡◌, ℕ, ◌<◌, ◌≤◌, min, max, false, cond, eqb, leb, List, length, get_or, sym, refl, ap, ◌∙◌, arith, leb-false, leb-true}
use native.Mathlib.Nat.{max_comm}
use borrow.Table.Steps.{cases}
use Rattle.laws.specs.Below.{sum_below, sum_between}
use Rattle.laws.proofs.Below.{sum_same, between_all, between_none}
use Rattle.laws.proofs.Turn.{list_at, list_long}
use Rattle.excitation.specs.Excitation.{hl, lh}
use Rattle.excitation.specs.UncertaintySet.{member, empty}
use Rattle.excitation.specs.declared.Excitation.{Excitation}
use Rattle.block.specs.Limits.{gate_limit}
use Rattle.block.specs.declared.Gate.{Gate}
use Rattle.sheet.specs.Changes.{wrapped_sum, restored_in}
use Rattle.sheet.proofs.Changes.{wrapped_small}
use Rattle.rows.specs.Rows.{set_in, RowRead}
use Rattle.waveform.specs.Rows.{waveform_in}
use Rattle.current.specs.Current.{allowed_pulse, gate_current}
use Rattle.current.specs.Drawing.{transitions_in, Drawable, Drawn}
use Rattle.current.specs.Edges.{of_peak, edge_of, peak_of, PulseFields, GateEdges, pulse_by_rows, Passed, NoTick}
use Rattle.current.specs.declared.edge.Peak.{Peak}
use Rattle.current.specs.declared.edge.Peak.TheVariants.{Greater, Lower}
use Rattle.current.proofs.Currents.{transition_at, current_sum, current_most}
use Rattle.current.proofs.Edges.{none_allowed}
use Rattle.current.proofs.Transitions.{read_from}

-- The edges of a gate are lh and hl, whichever has the greater peak.
of_edges : (gate : Gate) (Q : Excitation → Type 0) → Q lh → Q hl → (peak : Peak) → Q (edge_of gate peak)
unfolding edge_of
of_edges gate Q up down peak =
    cases (leb gate.peaks.hl gate.peaks.lh)
    (λ b. rw b (on peak up down))
    (λ b. rw b (on peak down up))
  where
    on : (peak : Peak) {a b : Excitation} → Q a → Q b → Q (of_peak peak a b)
    on Greater x y = x
    on Lower x y = y

-- A gate that is drawn from the rows of its edges, as they are read from the work buffer.
module _ {gate : Gate} {net : ℕ} {work words greater lower : List ℕ} (drawable : Drawable gate work net words)
    (one : RowRead (edge_of gate Greater) net work greater) (other : RowRead (edge_of gate Lower) net work lower) where
  fields : PulseFields gate
  fields = record { ranges = drawable.ranges; fits = drawable.fits }

  pub gate_edges : GateEdges gate greater lower
  gate_edges =
      let high = drawable.ranges.delay_high in
      let before = of_edges gate (λ e. (t : ℕ) → t < gate.delay → member e (set_in work net t) ≡ false) drawable.no_rise_before drawable.no_fall_before in
      record {
        fields = fields;
        greater_from = read_from one gate.delay (omega arith) (before Greater);
        lower_from = read_from other gate.delay (omega arith) (before Lower);
      }

  -- The pulse that a tick allows by the rows is the one that its set allows.
  by_rows : (x t : ℕ) → x < 256 → pulse_by_rows gate greater lower x t ≡ allowed_pulse gate (transition_at (member lh) (member hl) x (set_in work net x)) t
  unfolding pulse_by_rows allowed_pulse edge_of peak_of
  by_rows x t h =
      cases (leb gate.peaks.hl gate.peaks.lh)
      (λ b. let less = leb-true gate.peaks.hl gate.peaks.lh b in
      let most : max gate.peaks.lh gate.peaks.hl ≡ gate.peaks.lh = omega arith in
      let least : min gate.peaks.lh gate.peaks.hl ≡ gate.peaks.hl = omega arith in
      let up : RowRead lh net work greater = rw b at one in
      let down : RowRead hl net work lower = rw b at other in
      rw (most, least, up.ticks x h, down.ticks x h) refl)
      (λ b. let less = leb-false gate.peaks.hl gate.peaks.lh b in
      let most : max gate.peaks.lh gate.peaks.hl ≡ gate.peaks.hl = omega arith in
      let least : min gate.peaks.lh gate.peaks.hl ≡ gate.peaks.lh = omega arith in
      let down : RowRead hl net work greater = rw b at one in
      let up : RowRead lh net work lower = rw b at other in
      rw (most, least, up.ticks x h, down.ticks x h) (max_comm _ _))

  -- The sets of the net's waveform, tick by tick.

  set_at : (x : ℕ) → x < 256 → get_or (waveform_in work net).ticks x empty ≡ set_in work net x
  unfolding waveform_in
  set_at x h = list_at 256 (set_in work net) x empty h

  ticks_long : length (waveform_in work net).ticks ≡ 256
  unfolding waveform_in
  ticks_long = list_long 256 (set_in work net)

  -- So the pulses of all ticks sum to the gate's current.
  all_pulses : (t : ℕ) → sum_between 0 256 (λ x. pulse_by_rows gate greater lower x t) ≡ gate_current gate (transitions_in work net) t
  unfolding transitions_in
  all_pulses t =
      between_all 256 (λ x. pulse_by_rows gate greater lower x t)
      ∙ sum_same 256 (λ x. pulse_by_rows gate greater lower x t) (λ x. allowed_pulse gate (transition_at (member lh) (member hl) x (get_or (waveform_in work net).ticks x empty)) t)
      (λ x h. by_rows x t h ∙ ap (λ set. allowed_pulse gate (transition_at (member lh) (member hl) x set) t) (sym (set_at x h)))
      ∙ ap (λ n. sum_below n (λ x. allowed_pulse gate (transition_at (member lh) (member hl) x (get_or (waveform_in work net).ticks x empty)) t)) (sym ticks_long)
      ∙ sym (current_sum gate (member lh) (member hl) (waveform_in work net).ticks empty t)

  current_small : (t : ℕ) → gate_current gate (transitions_in work net) t ≤ gate_limit
  unfolding transitions_in
  current_small t = current_most fields t (member lh) (member hl) (waveform_in work net).ticks empty

  -- Where neither row has a tick, the gate draws nothing.
  module _ (none : NoTick greater) (no_lower : NoTick lower) where
    no_current : (t : ℕ) → gate_current gate (transitions_in work net) t ≡ 0
    no_current t = sym (all_pulses t) ∙ between_none 0 256 _ (λ x _ h. none_allowed gate greater lower x t (none x h) (no_lower x h))

    pub nothing_drawn : Drawn gate (transitions_in work net) words words
    nothing_drawn = record {
      long = drawable.long;
      at = λ c t h l. rw (no_current t) (cases (eqb gate.contact c) (λ b. rw b (omega arith)) (λ b. rw b (omega arith)));
      most = λ t. rw (no_current t) (omega arith);
    }

  -- The words once the pass over all ticks is done.
  pub gate_drawn : {after : List ℕ} → Passed gate greater lower 0 256 words after → Drawn gate (transitions_in work net) words after
  gate_drawn {after} passed = record {
    long = passed.long ∙ drawable.long;
    at = λ c t h l.
        let room = drawable.room c t h l in
        let most = current_small t in
        let small : cond (eqb gate.contact c) (gate_current gate (transitions_in work net) t) 0 ≤ gate_limit =
        cases (eqb gate.contact c) (λ b. rw b most) (λ b. rw b (omega arith)) in
        passed.at c t h l
        ∙ ap (λ x. wrapped_sum (restored_in words c t) (cond (eqb gate.contact c) x 0)) (all_pulses t)
        ∙ wrapped_small (restored_in words c t) (cond (eqb gate.contact c) (gate_current gate (transitions_in work net) t) 0) (omega arith);
    most = current_small;
  }
