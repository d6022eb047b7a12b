-- When nets switch: a gate of an accepted block holds its level before its delay has passed and after its arrival, after which its set
-- stays the same. In every envelope, whatever the hop limit.
-- Assumes nothing.
use Prim.Native.Nat.{ℕ, zero, suc, ◌+◌, ◌-◌, ◌≤◌, ◌<◌}
use mathlib.Core.Bool.{true, false, cond}
use mathlib.Core.List.{List}
use mathlib.Core.Logic.{⊎_elim}
use mathlib.Core.Path.{◌≡◌, refl, sym, subst, ◌∙◌}
use native.Mathlib.Nat.{eq-or-lt_of_le, le_of_suc-le-suc, not-suc-le-zero}
use native.Mathlib.Omega.{arith}
use lib.Dec.{eqb, ltb}
use lib.ListN.{length, get_or, get_or-eq_default}
use borrow.Author.Tests.{ltb-true, ltb-false, lt-ltb, le-ltb, ne_eqb}
use borrow.Table.Steps.{cases}
use Rattle.laws.specs.Settled.{SettledAfter}
use Rattle.laws.specs.Turn.{list_below}
use Rattle.laws.proofs.Below.{max_at}
use Rattle.laws.proofs.Lists.{get_d_any}
use Rattle.laws.proofs.Turn.{list_long, list_at, turn_at}
use Rattle.excitation.specs.Excitation.{l, hl, lh}
use Rattle.excitation.specs.UncertaintySet.{UncertaintySet, member, empty, single, held_before_set, held_after_set, Held}
use Rattle.excitation.proofs.Held.{before_held, after_held}
use Rattle.block.specs.Accepted.{AcceptedFile, GateRecord}
use Rattle.block.specs.Block.{arrival_from, arrivals, arrival, latest_pin, switching_tick}
use Rattle.block.specs.Record.{File, is_input}
use Rattle.block.specs.View.{gate_of, pin_of}
use Rattle.block.specs.declared.Gate.{Gate}
use Rattle.block.proofs.Accepted.{arrival_at}
use Rattle.fill.proofs.Filled.{filled_long, filled_not_before, filled_not_after, filled_settled}
use Rattle.waveform.specs.Waveform.{Waveform, earlier, envelope, input_waveform, pin_waveform, gate_at, gate_waveform, net_waveform, waveforms}
use Rattle.waveform.proofs.Gates.{gate_same, from_held}
use Rattle.waveform.proofs.Waveforms.{net_input, net_gate}

-- A waveform that switches only from tick `first` to tick `last`, and stays the same after it.
pub record SwitchesWithin (first last : ℕ) (w : Waveform UncertaintySet) : Type 0 where
  pub long : length w.ticks ≡ 256
  pub held : Held w.before
  pub early : (t : ℕ) → t < first → Held (get_or w.ticks t empty)
  pub late : (t : ℕ) → last < t → Held (get_or w.ticks t empty)
  pub settled : SettledAfter last (λ t. get_or w.ticks t empty)

empty_held : Held empty
unfolding member
empty_held = record { no_hl = refl; no_lh = refl }

past : (xs : List UncertaintySet) → length xs ≡ 256 → (t : ℕ) → 256 ≤ t → get_or xs t empty ≡ empty
past xs long t h = get_or-eq_default xs empty (omega arith)

-- An input switches at its tick alone.
pub input_settles : (hops switching : ℕ) (s : UncertaintySet) → switching < 256 → SwitchesWithin 0 switching (input_waveform (envelope hops) switching s)
unfolding input_waveform
input_settles hops switching s in_time = record {
  long = list_long 256 set_at;
  held = before_held s;
  early = λ t h. absurd (omega arith);
  late = λ t h. cases (ltb t 256)
      (λ b. subst Held (sym (after_at t h (ltb-true t 256 b))) (after_held s))
      (λ b. subst Held (sym (past (list_below 256 set_at) (list_long 256 set_at) t (ltb-false t 256 b))) empty_held);
  settled = record { same = λ t h q. after_at t h q ∙ sym (after_at 255 (omega arith) (omega arith)) };
}
  where
    set_at : ℕ → UncertaintySet
    set_at t = cond (ltb t switching) (held_before_set s) (cond (eqb t switching) s (held_after_set s))

    after_at : (t : ℕ) → switching < t → t < 256 → get_or (list_below 256 set_at) t empty ≡ held_after_set s
    after_at t h q = list_at 256 set_at t empty q ∙ rw (le-ltb t switching (omega arith), ne_eqb t switching (λ e. omega arith)) refl

-- A gate, from its pins.
module _ (hops net : ℕ) (gate : Gate) (passed : GateRecord net gate) (below : List (Waveform UncertaintySet)) (latest : ℕ)
    (first arrives : ℕ → ℕ)
    (settles : (p : ℕ) → p < gate.used → SwitchesWithin (first p) (arrives p) (pin_waveform (envelope hops) gate below p))
    (soon : (p : ℕ) → p < gate.used → arrives p ≤ latest) (in_time : latest + gate.delay ≤ 255) where
  abbrev D : ℕ
  D = gate.delay

  raw : ℕ → UncertaintySet
  raw = gate_at (envelope hops) gate below

  raws : List UncertaintySet
  raws = list_below 256 raw

  raws_long : length raws ≡ 256
  unfolding raws
  raws_long = list_long 256 raw

  raws_at : (t : ℕ) → t < 256 → get_or raws t empty ≡ raw t
  unfolding raws
  raws_at t h = list_at 256 raw t empty h

  early_held : (t : ℕ) → t < D → Held (get_or raws t empty)
  unfolding raw gate_at earlier
  early_held t h =
      subst Held (sym (raws_at t (omega (arith, passed.ranges.delay_high))))
      (from_held hops gate _ passed.pins_low (λ p q. rw (lt-ltb t D h) (settles p q).held))

  -- A pin at t − D, past its own arrival.
  pin_late : (t p : ℕ) → latest + D < t → t < 256 → p < gate.used
      → earlier D t (pin_waveform (envelope hops) gate below p) ≡ get_or (pin_waveform (envelope hops) gate below p).ticks 255 empty
  unfolding earlier
  pin_late t p h q r =
      let w = settles p r in
      let s = soon p r in
      rw (le-ltb t D (omega arith))
      (get_d_any (pin_waveform (envelope hops) gate below p).ticks (t - D) _ empty (omega (arith, w.long)) ∙ w.settled.same (t - D) (omega arith) (omega arith))

  late_held : (t : ℕ) → latest + D < t → t < 256 → Held (raw t)
  unfolding raw gate_at
  late_held t h q =
      from_held hops gate _ passed.pins_low
      (λ p r. subst Held (sym (pin_late t p h q r)) ((settles p r).late 255 (omega (arith, soon p r, passed.ranges.delay_low))))

  late_same : (t : ℕ) → latest + D < t → t < 256 → raw t ≡ raw 255
  unfolding raw gate_at
  late_same t h q =
      gate_same (envelope hops) gate _ _ passed.pins_low (λ p r. pin_late t p h q r ∙ sym (pin_late 255 p (omega arith) (omega arith) r))

  raws_late : (t : ℕ) → latest + D < t → Held (get_or raws t empty)
  raws_late t h =
      cases (ltb t 256)
      (λ b. let q = ltb-true t 256 b in subst Held (sym (raws_at t q)) (late_held t h q))
      (λ b. subst Held (sym (past raws raws_long t (ltb-false t 256 b))) empty_held)

  raws_same : (s t : ℕ) → latest + D < s → s ≤ t → t < 256 → get_or raws t empty ≡ get_or raws s empty
  raws_same s t h k q =
      raws_at t q ∙ late_same t (omega arith) q ∙ sym (late_same s h (omega arith)) ∙ sym (raws_at s (omega arith))

  gate_settles : SwitchesWithin D (latest + D) (gate_waveform (envelope hops) gate below)
  unfolding gate_waveform raws raw
  gate_settles = record {
    long = filled_long hops raws ∙ raws_long;
    held = from_held hops gate _ passed.pins_low (λ p q. (settles p q).held);
    early = λ t h. record {
      no_hl = filled_not_before hops raws raws_long hl D (λ t h. (early_held t h).no_hl) t h;
      no_lh = filled_not_before hops raws raws_long lh D (λ t h. (early_held t h).no_lh) t h;
    };
    late = λ t h. record {
      no_hl = filled_not_after hops raws raws_long hl (latest + D + 1) (λ t h. (raws_late t (omega arith)).no_hl) t (omega arith);
      no_lh = filled_not_after hops raws raws_long lh (latest + D + 1) (λ t h. (raws_late t (omega arith)).no_lh) t (omega arith);
    };
    settled = record {
      same = λ t h q.
          filled_settled hops raws raws_long (latest + D + 1) (λ u k r. raws_same (latest + D + 1) u (omega arith) k r) t (omega arith) q
          ∙ sym (filled_settled hops raws raws_long (latest + D + 1) (λ u k r. raws_same (latest + D + 1) u (omega arith) k r) 255 (omega arith) (omega arith));
    };
  }

-- The first tick at which a net may switch.
abbrev pub first_tick : File → ℕ → ℕ
first_tick file net = cond (is_input file net) 0 (gate_of file net).delay

module _ (file : File) (nets inputs : ℕ) (accepted : AcceptedFile file nets inputs) (hops : ℕ) (sets : List UncertaintySet) where
  unfoldable pub waveform_of : ℕ → Waveform UncertaintySet
  waveform_of net = net_waveform (envelope hops) file sets (waveforms (envelope hops) file sets net) net

  pub waveform_at : (n net : ℕ) (d : Waveform UncertaintySet) → net < n → get_or (waveforms (envelope hops) file sets n) net d ≡ waveform_of net
  unfolding waveforms waveform_of
  waveform_at n net d h = turn_at (net_waveform (envelope hops) file sets) n net d h

  input_is : (net : ℕ) → is_input file net ≡ true → waveform_of net ≡ input_waveform (envelope hops) (switching_tick file net) (get_or sets net (single l))
  unfolding waveform_of
  input_is net e = net_input (envelope hops) file sets _ net e

  gate_is : (net : ℕ) → is_input file net ≡ false → waveform_of net ≡ gate_waveform (envelope hops) (gate_of file net) (waveforms (envelope hops) file sets net)
  unfolding waveform_of
  gate_is net e = net_gate (envelope hops) file sets _ net e

  -- An input arrives at the tick at which it switches.
  input_net : (net : ℕ) → net < nets → is_input file net ≡ true → SwitchesWithin (first_tick file net) (arrival file net) (waveform_of net)
  unfolding arrival_from
  input_net net h e = rw (e, input_is net e) (input_settles hops (switching_tick file net) (get_or sets net (single l)) (in_time (accepted.arrives net h)))
    where
      in_time : arrival file net ≤ 255 → switching_tick file net < 256
      in_time a = let at_most : switching_tick file net ≤ 255 = rw e at a in omega arith

  pin_arrival : (net : ℕ) (gate : Gate) (p : ℕ) → pin_of gate p < net → p < gate.used → arrival file (pin_of gate p) ≤ latest_pin gate (arrivals file net)
  unfolding latest_pin
  pin_arrival net gate p b h =
      let m = max_at gate.used (λ p. get_or (arrivals file net) (pin_of gate p) 0) p h in
      omega (arith, m, arrival_at file net (pin_of gate p) b)

  gate_net : (net : ℕ) → net < nets → is_input file net ≡ false → GateRecord net (gate_of file net)
      → ((m : ℕ) → m < net → SwitchesWithin (first_tick file m) (arrival file m) (waveform_of m)) → SwitchesWithin (first_tick file net) (arrival file net) (waveform_of net)
  unfolding arrival_from pin_waveform
  gate_net net h e passed settles =
      let gate = gate_of file net in
      rw (e, gate_is net e)
      (gate_settles hops net gate passed (waveforms (envelope hops) file sets net) (latest_pin gate (arrivals file net))
      (λ p. first_tick file (pin_of gate p)) (λ p. arrival file (pin_of gate p))
      (λ p q. let b = passed.pin_below p q in
      subst (SwitchesWithin (first_tick file (pin_of gate p)) (arrival file (pin_of gate p))) (sym (waveform_at net (pin_of gate p) _ b)) (settles (pin_of gate p) b))
      (λ p q. pin_arrival net gate p (passed.pin_below p q) q)
      (in_time (accepted.arrives net h)))
    where
      in_time : arrival file net ≤ 255 → latest_pin (gate_of file net) (arrivals file net) + (gate_of file net).delay ≤ 255
      in_time a = rw e at a

  net_from : (net : ℕ) → net < nets → ((m : ℕ) → m < net → SwitchesWithin (first_tick file m) (arrival file m) (waveform_of m))
      → SwitchesWithin (first_tick file net) (arrival file net) (waveform_of net)
  net_from net h below =
      cases (ltb net inputs)
      (λ b. input_net net h (accepted.input net (ltb-true net inputs b)).input)
      (λ b. let gates = ltb-false net inputs b in gate_net net h (accepted.no_input net gates h) (accepted.gate net gates h) below)

  settles_below : (n : ℕ) → n ≤ nets → (m : ℕ) → m < n → SwitchesWithin (first_tick file m) (arrival file m) (waveform_of m)
  settles_below zero h m l = absurd (not-suc-le-zero l)
  settles_below (suc n) h m l =
      let below = settles_below n (omega arith) in
      ⊎_elim (λ (e : m ≡ n). subst (λ k. SwitchesWithin (first_tick file k) (arrival file k) (waveform_of k)) (sym e) (net_from n (omega arith) below))
      (λ q. below m q) (eq-or-lt_of_le (le_of_suc-le-suc l))

  -- Every net of an accepted block switches only from its first tick to its arrival.
  pub net_settles : (net : ℕ) → net < nets → SwitchesWithin (first_tick file net) (arrival file net) (waveform_of net)
  net_settles net h = settles_below nets (omega arith) net h
