-- Laws of a gate's current: when it flows, that it grows with what the gate's ticks allow, and how great it is at most.
-- Assumes nothing.
use Rattle.std.proofs.Common.{◌≡◌, ℕ, suc, ◌+◌, ◌-◌, ◌<◌, ◌≤◌, Bool, true, false, ◌||◌, ltb, leb, List, [], ◌∷◌, length, get_or, sym, refl, ap, ◌∙◌, ap₂, le_refl, mul-le-mul_right, zero-add, arith, ltb-false, ltb-true, leb-false, leb-true}
use mathlib.Core.Bool.{false≢true}
use mathlib.Core.List.{Forall₂}
use borrow.Table.Steps.{cases}
use Rattle.laws.specs.Below.{sum_below}
use Rattle.laws.proofs.Below.{sum_same, sum_within, sum_first, sum_few}
use Rattle.laws.proofs.Tests.{or_fails}
use Rattle.block.specs.Limits.{peak_limit, gate_limit}
use Rattle.block.specs.declared.Gate.{Gate}
use Rattle.current.specs.Current.{Transition, edge_pulse, allowed_pulse, gate_current, transitions_from}
use Rattle.current.specs.Edges.{PulseFields}
use Rattle.current.specs.Pulse.{pulse_at}
use Rattle.current.proofs.Edges.{range_of, edge_not_allowed, edge_at_most}
use Rattle.current.proofs.Pulses.{pulse_at_most, pulse_at_ends, pulse_waits, pulse_quiet}

-- The transition that a value allows at tick x, if any.
abbrev pub transition_at : {A : Type 0} → (A → Bool) → (A → Bool) → ℕ → A → Transition
transition_at rises falls x value = record { tick = x; lh = rises value; hl = falls value }

-- What a transition adds: nothing where it allows no edge, and nothing where no pulse flows.
module _ (gate : Gate) (transition : Transition) (t : ℕ) where
  pub nothing_allowed : transition.lh ≡ false → transition.hl ≡ false → allowed_pulse gate transition t ≡ 0
  unfolding allowed_pulse
  nothing_allowed no_rise no_fall =
      let up = edge_not_allowed gate gate.peaks.lh transition.tick t no_rise in
      let down = edge_not_allowed gate gate.peaks.hl transition.tick t no_fall in
      omega arith

  allowed_at_most : (bound : ℕ) → pulse_at gate.peaks.lh gate.rise gate.fall gate.delay transition.tick t ≤ bound
      → pulse_at gate.peaks.hl gate.rise gate.fall gate.delay transition.tick t ≤ bound → allowed_pulse gate transition t ≤ bound
  unfolding allowed_pulse
  allowed_at_most bound lh_most hl_most =
      let up = edge_at_most gate gate.peaks.lh transition.tick t transition.lh in
      let down = edge_at_most gate gate.peaks.hl transition.tick t transition.hl in
      omega arith

  nothing_flows : ((P : ℕ) → pulse_at P gate.rise gate.fall gate.delay transition.tick t ≡ 0) → allowed_pulse gate transition t ≡ 0
  nothing_flows none =
      let up = none gate.peaks.lh in
      let down = none gate.peaks.hl in
      let most = allowed_at_most 0 (omega arith) (omega arith) in
      omega arith

-- A gate's current is the sum over all ticks: one whose value allows neither edge adds nothing.
module _ {A : Type 0} (gate : Gate) (rises falls : A → Bool) where
  pub current_next : (x : ℕ) (value : A) (later : List A) (t : ℕ)
      → gate_current gate (transitions_from rises falls x (value ∷ later)) t
      ≡ allowed_pulse gate (transition_at rises falls x value) t + gate_current gate (transitions_from rises falls (suc x) later) t
  unfolding transitions_from gate_current
  current_next x value later t =
      cases (rises value || falls value)
      (λ b. rw b refl)
      (λ b. let none = or_fails (rises value) (falls value) b in
      let nothing = nothing_allowed gate (transition_at rises falls x value) t none.0 none.1 in
      rw (b, nothing) (sym (zero-add _)))

  ticks_sum : (x : ℕ) (values : List A) (d : A) (t : ℕ)
      → gate_current gate (transitions_from rises falls x values) t
      ≡ sum_below (length values) (λ k. allowed_pulse gate (transition_at rises falls (x + k) (get_or values k d)) t)
  unfolding transitions_from gate_current sum_below
  ticks_sum x [] d t = refl
  ticks_sum x (value ∷ later) d t =
      let first : x ≡ x + 0 = omega arith in
      current_next x value later t
      ∙ ap₂ ◌+◌ (ap (λ y. allowed_pulse gate (transition_at rises falls y value) t) first)
      (ticks_sum (suc x) later d t
      ∙ sum_same (length later) _ _
      (λ k h. ap (λ y. allowed_pulse gate (transition_at rises falls y (get_or later k d)) t) (let next : suc x + k ≡ x + suc k = omega arith in next)))
      ∙ sym (sum_first (length later) (λ k. allowed_pulse gate (transition_at rises falls (x + k) (get_or (value ∷ later) k d)) t))

  pub current_sum : (values : List A) (d : A) (t : ℕ)
      → gate_current gate (transitions_from rises falls 0 values) t
      ≡ sum_below (length values) (λ x. allowed_pulse gate (transition_at rises falls x (get_or values x d)) t)
  current_sum values d t =
      ticks_sum 0 values d t
      ∙ sum_same (length values) _ _ (λ k h. ap (λ y. allowed_pulse gate (transition_at rises falls y (get_or values k d)) t) (zero-add k))

  -- It draws nothing up to the start of its first transition's pulse, and nothing once the pulses of its last have ended.
  module _ (values : List A) (d : A) (a t : ℕ) where
    current_none : ((x : ℕ) → allowed_pulse gate (transition_at rises falls x (get_or values x d)) t ≡ 0)
        → gate_current gate (transitions_from rises falls 0 values) t ≡ 0
    current_none none =
        let within = sum_within (length values) (λ x. allowed_pulse gate (transition_at rises falls x (get_or values x d)) t) 0
        (λ x h. let zero = none x in omega arith) in
        omega (arith, current_sum values d t)

    pub current_waits : ((x : ℕ) → x < a → rises (get_or values x d) ≡ false) → ((x : ℕ) → x < a → falls (get_or values x d) ≡ false)
        → t + gate.delay ≤ a → gate_current gate (transitions_from rises falls 0 values) t ≡ 0
    current_waits no_rise no_fall h =
        current_none
        (λ x.
        cases (ltb x a)
        (λ b. let early = ltb-true x a b in nothing_allowed gate _ t (no_rise x early) (no_fall x early))
        (λ b. let late = ltb-false x a b in
        nothing_flows gate _ t (λ P. pulse_waits P gate.rise gate.fall gate.delay x t (omega arith))))

    pub current_quiet : ((x : ℕ) → a < x → rises (get_or values x d) ≡ false) → ((x : ℕ) → a < x → falls (get_or values x d) ≡ false)
        → a + gate.rise + gate.fall < t + gate.delay → gate_current gate (transitions_from rises falls 0 values) t ≡ 0
    current_quiet no_rise no_fall h =
        current_none
        (λ x.
        cases (leb x a)
        (λ b. let early = leb-true x a b in
        nothing_flows gate _ t (λ P. pulse_quiet P gate.rise gate.fall gate.delay x t (omega arith)))
        (λ b. let late = leb-false x a b in nothing_allowed gate _ t (no_rise x late) (no_fall x late)))

-- A gate whose ticks allow more draws no less.

edge_grows : (gate : Gate) (P x t : ℕ) (allowed more : Bool) → (allowed ≡ true → more ≡ true)
    → edge_pulse gate P allowed x t ≤ edge_pulse gate P more x t
unfolding edge_pulse
edge_grows gate P x t true true h = le_refl _
edge_grows gate P x t true false h = absurd (false≢true (h refl))
edge_grows gate P x t false more h = omega arith

module _ {A B : Type 0} (gate : Gate) (rises falls : A → Bool) (rises' falls' : B → Bool) where
  tick_grows : (x t : ℕ) (v : A) (w : B) → (rises v ≡ true → rises' w ≡ true) → (falls v ≡ true → falls' w ≡ true)
      → allowed_pulse gate (transition_at rises falls x v) t ≤ allowed_pulse gate (transition_at rises' falls' x w) t
  unfolding allowed_pulse
  tick_grows x t v w rise fall =
      let up = edge_grows gate gate.peaks.lh x t (rises v) (rises' w) rise in
      let down = edge_grows gate gate.peaks.hl x t (falls v) (falls' w) fall in
      omega arith

  ticks_grow : (x t : ℕ) {vs : List A} {ws : List B} → Forall₂ (λ v w. rises v ≡ true → rises' w ≡ true) vs ws
      → Forall₂ (λ v w. falls v ≡ true → falls' w ≡ true) vs ws
      → gate_current gate (transitions_from rises falls x vs) t ≤ gate_current gate (transitions_from rises' falls' x ws) t
  unfolding transitions_from gate_current
  ticks_grow x t Forall₂.nil Forall₂.nil = le_refl _
  ticks_grow x t (Forall₂.cons {a = v} {b = w} {l₁ = vs} {l₂ = ws} rise up) (Forall₂.cons fall down) =
      let here = tick_grows x t v w rise fall in
      let later = ticks_grow (suc x) t up down in
      omega (arith, current_next gate rises falls x v vs t, current_next gate rises' falls' x w ws t)

  pub current_at_most : {vs : List A} {ws : List B} → Forall₂ (λ v w. rises v ≡ true → rises' w ≡ true) vs ws
      → Forall₂ (λ v w. falls v ≡ true → falls' w ≡ true) vs ws → (t : ℕ)
      → gate_current gate (transitions_from rises falls 0 vs) t ≤ gate_current gate (transitions_from rises' falls' 0 ws) t
  current_at_most up down t = ticks_grow 0 t up down

-- A pulse is above 0 at rise + fall − 1 ticks at most. So no more pulses than that meet at a tick.
module _ {gate : Gate} (fields : PulseFields gate) (t : ℕ) where
  ended : (transition : Transition) → transition.tick + gate.rise + gate.fall ≤ t + gate.delay → allowed_pulse gate transition t ≡ 0
  ended transition h =
      let up = pulse_at_ends (range_of fields gate.peaks.lh fields.fits.peak_lh_high) gate.delay transition.tick t h in
      let down = pulse_at_ends (range_of fields gate.peaks.hl fields.fits.peak_hl_high) gate.delay transition.tick t h in
      let most = allowed_at_most gate transition t 0 (omega arith) (omega arith) in
      omega arith

  most_allowed : (transition : Transition) → allowed_pulse gate transition t ≤ peak_limit - 1
  most_allowed transition =
      let x = transition.tick in
      let lh_high = fields.fits.peak_lh_high in
      let hl_high = fields.fits.peak_hl_high in
      let up = pulse_at_most (range_of fields gate.peaks.lh lh_high) gate.delay x t in
      let down = pulse_at_most (range_of fields gate.peaks.hl hl_high) gate.delay x t in
      allowed_at_most gate transition t (peak_limit - 1) (omega arith) (omega arith)

  pub current_most : {A : Type 0} (rises falls : A → Bool) (values : List A) (d : A)
      → gate_current gate (transitions_from rises falls 0 values) t ≤ gate_limit
  current_most rises falls values d =
      let rise = fields.ranges.rise_high in
      let fall = fields.ranges.fall_high in
      let rise_low = fields.ranges.rise_low in
      let few = sum_few (length values) (λ x. allowed_pulse gate (transition_at rises falls x (get_or values x d)) t)
      (t + gate.delay + 1 - (gate.rise + gate.fall)) (gate.rise + gate.fall - 1) (peak_limit - 1)
      (λ x. most_allowed (transition_at rises falls x (get_or values x d)))
      (λ x h. ended (transition_at rises falls x (get_or values x d)) (omega arith))
      (λ x h. nothing_flows gate (transition_at rises falls x (get_or values x d)) t
      (λ P. pulse_waits P gate.rise gate.fall gate.delay x t (omega arith))) in
      let fewest : gate.rise + gate.fall - 1 ≤ 253 = omega arith in
      omega (arith, current_sum gate rises falls values d t, mul-le-mul_right (peak_limit - 1) fewest)
