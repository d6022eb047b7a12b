-- A simulation is the envelope of sets of one member with nothing filled: one engine serves both.
-- Assumes nothing.
use Prim.Native.Nat.{ℕ, zero, suc, ◌-◌, ◌≤◌}
use mathlib.Core.Bool.{cond}
use mathlib.Core.List.{List, [], ◌∷◌, ◌++◌, map, map-append}
use mathlib.Core.Path.{◌≡◌, refl, ap, sym, ◌∙◌, fun_ext}
use lib.Dec.{eqb, ltb}
use lib.ListN.{get_or, get_or-map}
use borrow.Table.Steps.{cases}
use Rattle.laws.specs.Turn.{in_turn, list_below}
use Rattle.laws.proofs.Turn.{list_long, list_at, list_is, list_map}
use Rattle.excitation.specs.Excitation.{l, held_before, held_after}
use Rattle.excitation.specs.UncertaintySet.{UncertaintySet, single, held_before_set, held_after_set}
use Rattle.excitation.specs.declared.Excitation.{Excitation}
use Rattle.excitation.proofs.OneMember.{each_single}
use Rattle.block.specs.Block.{switching_tick}
use Rattle.block.specs.Record.{File, is_input}
use Rattle.block.specs.View.{gate_of, pin_of}
use Rattle.block.specs.declared.Gate.{Gate}
use Rattle.fill.proofs.Filled.{filled_none}
use Rattle.waveform.specs.Waveform.{Waveform, earlier, simulation, envelope, input_waveform, gate_from, pin_waveform, gate_at, gate_waveform, net_waveform, waveforms}
use Rattle.waveform.proofs.Gates.{from_single}
use Rattle.waveform.proofs.Waveforms.{waveform_is, net_input, net_gate}

-- The waveform of the sets whose one member is what a waveform has.
abbrev pub singles : Waveform Excitation → Waveform UncertaintySet
singles w = record { before = single w.before; ticks = map single w.ticks }

earlier_single : (d t : ℕ) (w : Waveform Excitation) → earlier d t (singles w) ≡ single (earlier d t w)
unfolding earlier
earlier_single d t w = cases (ltb t d) (λ b. rw b refl) (λ b. rw b (get_or-map single w.ticks (t - d) w.before))

module _ (hops : ℕ) (enough : 128 ≤ hops) where
  input_single : (switching : ℕ) (e : Excitation) → input_waveform (envelope hops) switching (single e) ≡ singles (input_waveform simulation switching e)
  unfolding input_waveform
  input_single switching e =
      waveform_is _ _ (each_single held_before e)
      (list_is 256 _ (single l) _ (list_long 256 _) (λ t h. list_at 256 _ t (single l) h ∙ at t) ∙ sym (list_map single 256 _))
    where
      at : (t : ℕ)
          → cond (ltb t switching) (held_before_set (single e)) (cond (eqb t switching) (single e) (held_after_set (single e)))
          ≡ single (cond (ltb t switching) (held_before e) (cond (eqb t switching) e (held_after e)))
      at t =
          cases (ltb t switching)
          (λ b. rw b (each_single held_before e))
          (λ b. rw b (cases (eqb t switching) (λ c. rw c refl) (λ c. rw c (each_single held_after e))))

  module _ (vs : List (Waveform Excitation)) where
    pin_single : (gate : Gate) (p : ℕ) → pin_waveform (envelope hops) gate (map singles vs) p ≡ singles (pin_waveform simulation gate vs p)
    unfolding pin_waveform
    pin_single gate p = get_or-map singles vs (pin_of gate p) (record { before = l; ticks = [] })

    at_single : (gate : Gate) (t : ℕ) → gate_at (envelope hops) gate (map singles vs) t ≡ single (gate_at simulation gate vs t)
    unfolding gate_at
    at_single gate t =
        ap (gate_from (envelope hops) gate) (fun_ext (λ p. ap (earlier gate.delay t) (pin_single gate p) ∙ earlier_single gate.delay t (pin_waveform simulation gate vs p)))
        ∙ from_single hops gate (λ p. earlier gate.delay t (pin_waveform simulation gate vs p))

    gate_single : (gate : Gate) → gate_waveform (envelope hops) gate (map singles vs) ≡ singles (gate_waveform simulation gate vs)
    unfolding gate_waveform
    gate_single gate =
        waveform_is _ _
        (ap (gate_from (envelope hops) gate) (fun_ext (λ p. ap (λ w. w.before) (pin_single gate p))) ∙ from_single hops gate (λ p. (pin_waveform simulation gate vs p).before))
        (filled_none hops (list_below 256 (gate_at (envelope hops) gate (map singles vs))) enough (list_long 256 _)
        ∙ list_is 256 (λ t. single (gate_at simulation gate vs t)) (single l) _ (list_long 256 _) (λ t h. list_at 256 _ t (single l) h ∙ at_single gate t)
        ∙ sym (list_map single 256 (gate_at simulation gate vs)))

    net_single : (file : File) (pattern : List Excitation) (net : ℕ)
        → net_waveform (envelope hops) file (map single pattern) (map singles vs) net ≡ singles (net_waveform simulation file pattern vs net)
    net_single file pattern net =
        cases (is_input file net)
        (λ e. net_input (envelope hops) file (map single pattern) (map singles vs) net e
        ∙ ap (input_waveform (envelope hops) (switching_tick file net)) (get_or-map single pattern net l)
        ∙ input_single (switching_tick file net) (get_or pattern net l)
        ∙ ap singles (sym (net_input simulation file pattern vs net e)))
        (λ e. net_gate (envelope hops) file (map single pattern) (map singles vs) net e
        ∙ gate_single (gate_of file net)
        ∙ ap singles (sym (net_gate simulation file pattern vs net e)))

  pub waveforms_single : (file : File) (pattern : List Excitation) (n : ℕ)
      → waveforms (envelope hops) file (map single pattern) n ≡ map singles (waveforms simulation file pattern n)
  unfolding waveforms in_turn
  waveforms_single file pattern zero = refl
  waveforms_single file pattern (suc n) =
      let made = waveforms_single file pattern n in
      let vs = waveforms simulation file pattern n in
      ap (λ ws. ws ++ (net_waveform (envelope hops) file (map single pattern) ws n ∷ [])) made
      ∙ ap (λ w. map singles vs ++ (w ∷ [])) (net_single vs file pattern n)
      ∙ sym (map-append singles vs (net_waveform simulation file pattern vs n ∷ []))
