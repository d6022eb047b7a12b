-- A gate's current in the words of request 5.
-- Assumes nothing.
use Rattle.std.proofs.Common.{◌≡◌, ℕ, suc, ◌+◌, true, false, List, [], ◌∷◌, get_or, sym, refl, ap, ◌∙◌, zero-add, arith}
use borrow.Table.Steps.{cases}
use Rattle.laws.specs.Below.{sum_below}
use Rattle.excitation.specs.Excitation.{hl, lh, same}
use Rattle.excitation.specs.UncertaintySet.{member, empty}
use Rattle.excitation.specs.declared.Excitation.{Excitation}
use Rattle.excitation.proofs.Sets.{same_gives}
use Rattle.block.specs.declared.Gate.{Gate}
use Rattle.current.specs.Current.{edge_pulse, allowed_pulse, gate_current, transitions_from, transitions_of}
use Rattle.current.specs.Pulse.{pulse_at}
use Rattle.current.specs.Sums.{simulated_pulses, sum_of, greater_pulse, SumsOfPulses}
use Rattle.current.proofs.Currents.{transition_at, nothing_allowed, current_next, current_sum}
use Rattle.current.proofs.Edges.{edge_allowed, edge_not_allowed}

module _ (gate : Gate) where
  -- An excitation allows one edge at most.
  not_both : (e : Excitation) → same lh e ≡ true → same hl e ≡ false
  not_both e rises = ap (same hl) (sym (same_gives lh e rises))

  -- What an excitation adds: the pulse of its edge, if it is one.
  module _ (x : ℕ) (e : Excitation) (t : ℕ) where
    pulse_of_rise : same lh e ≡ true → allowed_pulse gate (transition_at (same lh) (same hl) x e) t ≡ pulse_at gate.peaks.lh gate.rise gate.fall gate.delay x t
    unfolding allowed_pulse
    pulse_of_rise rises =
        let up = edge_allowed gate gate.peaks.lh x t rises in
        let down = edge_not_allowed gate gate.peaks.hl x t (not_both e rises) in
        omega arith

    pulse_of_fall : same lh e ≡ false → same hl e ≡ true
        → allowed_pulse gate (transition_at (same lh) (same hl) x e) t ≡ pulse_at gate.peaks.hl gate.rise gate.fall gate.delay x t
    unfolding allowed_pulse
    pulse_of_fall no_rise falls =
        let up = edge_not_allowed gate gate.peaks.lh x t no_rise in
        let down = edge_allowed gate gate.peaks.hl x t falls in
        omega arith

    next_pulse : (later : List Excitation)
        → sum_of (simulated_pulses gate x (e ∷ later) t) ≡ allowed_pulse gate (transition_at (same lh) (same hl) x e) t + sum_of (simulated_pulses gate (suc x) later t)
    unfolding simulated_pulses sum_of
    next_pulse later =
        let rest = sum_of (simulated_pulses gate (suc x) later t) in
        cases (same lh e)
        (λ rises.
        let one : sum_of (simulated_pulses gate x (e ∷ later) t) ≡ pulse_at gate.peaks.lh gate.rise gate.fall gate.delay x t + rest = rw rises refl in
        one ∙ ap (λ y. y + rest) (sym (pulse_of_rise rises)))
        (λ no_rise.
        cases (same hl e)
        (λ falls.
        let one : sum_of (simulated_pulses gate x (e ∷ later) t) ≡ pulse_at gate.peaks.hl gate.rise gate.fall gate.delay x t + rest =
        rw (no_rise, falls) refl in
        one ∙ ap (λ y. y + rest) (sym (pulse_of_fall no_rise falls)))
        (λ no_fall.
        let none : sum_of (simulated_pulses gate x (e ∷ later) t) ≡ rest = rw (no_rise, no_fall) refl in
        none ∙ sym (zero-add rest) ∙ ap (λ y. y + rest) (sym (nothing_allowed gate (transition_at (same lh) (same hl) x e) t no_rise no_fall))))

  pulses_added : (x : ℕ) (es : List Excitation) (t : ℕ)
      → gate_current gate (transitions_from (same lh) (same hl) x es) t ≡ sum_of (simulated_pulses gate x es t)
  unfolding transitions_from gate_current simulated_pulses sum_of
  pulses_added x [] t = refl
  pulses_added x (e ∷ later) t =
      current_next gate (same lh) (same hl) x e later t
      ∙ ap (λ rest. allowed_pulse gate (transition_at (same lh) (same hl) x e) t + rest) (pulses_added (suc x) later t)
      ∙ sym (next_pulse x e t later)

  pub sums_of_pulses : SumsOfPulses gate
  unfolding transitions_of allowed_pulse edge_pulse greater_pulse
  sums_of_pulses = record {
    simulated = λ w t. pulses_added 0 w.ticks t;
    enveloped = λ hops w long t. current_sum gate (member lh) (member hl) w.ticks empty t
        ∙ ap (λ n. sum_below n (λ x. allowed_pulse gate (transition_at (member lh) (member hl) x (get_or w.ticks x empty)) t)) long;
  }
