-- A simulated waveform lies within the envelope's: what a net has in a simulation is a member, before tick 0 and at each tick, of what
-- it has in the envelope of any case of which the pattern is a choice. Whatever the hop limit.
-- Assumes nothing.
use Prim.Native.Nat.{ℕ, zero, suc, ◌-◌}
use mathlib.Core.Bool.{Bool, true, false}
use mathlib.Core.List.{List, Forall₂}
use mathlib.Core.Path.{◌≡◌, sym, ◌∙◌}
use lib.Dec.{eqb, ltb}
use lib.ListN.{length, get_or}
use borrow.Table.Steps.{cases}
use Rattle.laws.specs.Turn.{in_turn}
use Rattle.laws.proofs.Pairs.{pairs_at, pairs_in, pairs_long, pairs_from, pairs_list, pairs_append}
use Rattle.laws.proofs.Turn.{list_long}
use Rattle.excitation.specs.Excitation.{l, held_before, held_after}
use Rattle.excitation.specs.UncertaintySet.{UncertaintySet, ◌∈◌, empty, single}
use Rattle.excitation.specs.declared.Excitation.{Excitation}
use Rattle.excitation.proofs.OneMember.{member_single}
use Rattle.excitation.proofs.Sets.{each_contains, same_self}
use Rattle.block.specs.Block.{Choice, switching_tick}
use Rattle.block.specs.Record.{File, is_input}
use Rattle.block.specs.View.{gate_of, pin_of}
use Rattle.block.specs.declared.Gate.{Gate}
use Rattle.fill.specs.Fill.{filled}
use Rattle.fill.proofs.Filled.{filled_long, filled_adds}
use Rattle.waveform.specs.Waveform.{Waveform, earlier, simulation, envelope, input_waveform, pin_waveform, gate_at, gate_waveform, net_waveform, waveforms}
use Rattle.waveform.proofs.Gates.{from_within}

pub record Within (v : Waveform Excitation) (w : Waveform UncertaintySet) : Type 0 where
  pub before : v.before ∈ w.before
  pub ticks : Forall₂ ◌∈◌ v.ticks w.ticks

none_within : l ∈ single l
none_within = member_single l l ∙ same_self l

earlier_within : (d t : ℕ) (v : Waveform Excitation) (w : Waveform UncertaintySet) → Within v w → earlier d t v ∈ earlier d t w
unfolding earlier
earlier_within d t v w h =
    cases (ltb t d) (λ s. rw s h.before) (λ s. rw s (pairs_at ◌∈◌ h.ticks v.before w.before h.before (t - d)))

module _ (hops : ℕ) where
  input_within : (switching : ℕ) (e : Excitation) (s : UncertaintySet) → e ∈ s
      → Within (input_waveform simulation switching e) (input_waveform (envelope hops) switching s)
  unfolding input_waveform
  input_within switching e s m =
      let first = each_contains held_before e s m in
      record {
        before = first;
        ticks = pairs_list ◌∈◌ 256 _ _
            (λ t h. cases (ltb t switching)
            (λ b. rw b first)
            (λ b. rw b (cases (eqb t switching) (λ c. rw c m) (λ c. rw c (each_contains held_after e s m)))));
      }

  -- Filling only adds.
  filled_contains : {es : List Excitation} {ss : List UncertaintySet} → length ss ≡ 256 → Forall₂ ◌∈◌ es ss → Forall₂ ◌∈◌ es (filled hops ss)
  filled_contains {es} {ss} long h =
      pairs_from ◌∈◌ l empty es (filled hops ss) (pairs_long ◌∈◌ h ∙ sym (filled_long hops ss))
      (λ t q. filled_adds hops ss long (get_or es t l) t (pairs_in ◌∈◌ h l empty t q))

  module _ (vs : List (Waveform Excitation)) (ws : List (Waveform UncertaintySet)) (below : Forall₂ Within vs ws) where
    pin_within : (gate : Gate) (p : ℕ) → Within (pin_waveform simulation gate vs p) (pin_waveform (envelope hops) gate ws p)
    unfolding pin_waveform
    pin_within gate p = pairs_at Within below _ _ (record { before = none_within; ticks = Forall₂.nil }) (pin_of gate p)

    at_within : (gate : Gate) (t : ℕ) → gate_at simulation gate vs t ∈ gate_at (envelope hops) gate ws t
    unfolding gate_at
    at_within gate t = from_within hops gate _ _ (λ p. earlier_within gate.delay t _ _ (pin_within gate p))

    gate_within : (gate : Gate) → Within (gate_waveform simulation gate vs) (gate_waveform (envelope hops) gate ws)
    unfolding gate_waveform
    gate_within gate = record {
      before = from_within hops gate _ _ (λ p. (pin_within gate p).before);
      ticks = filled_contains (list_long 256 (gate_at (envelope hops) gate ws)) (pairs_list ◌∈◌ 256 _ _ (λ t h. at_within gate t));
    }

    net_within : (file : File) {pattern : List Excitation} {sets : List UncertaintySet} → Choice pattern sets → (net : ℕ)
        → Within (net_waveform simulation file pattern vs net) (net_waveform (envelope hops) file sets ws net)
    unfolding net_waveform
    net_within file {pattern} {sets} choice net = go (is_input file net)
      where
        go : (input : Bool)
            → Within
            (elim input [ true ↦ input_waveform simulation (switching_tick file net) (get_or pattern net l) | false ↦ gate_waveform simulation (gate_of file net) vs ])
            (elim input [ true ↦ input_waveform (envelope hops) (switching_tick file net) (get_or sets net (single l)) | false ↦ gate_waveform (envelope hops) (gate_of file net) ws ])
        go true = input_within (switching_tick file net) _ _ (pairs_at ◌∈◌ choice l (single l) none_within net)
        go false = gate_within (gate_of file net)

  -- The waveforms of a pattern's simulation lie within those of any case's envelope of which it is a choice.
  pub waveforms_within : (file : File) {pattern : List Excitation} {sets : List UncertaintySet} → Choice pattern sets → (n : ℕ)
      → Forall₂ Within (waveforms simulation file pattern n) (waveforms (envelope hops) file sets n)
  unfolding waveforms in_turn
  waveforms_within file choice zero = Forall₂.nil
  waveforms_within file {pattern} {sets} choice (suc n) =
      let below = waveforms_within file choice n in
      pairs_append Within below (Forall₂.cons (net_within _ _ below file choice n) Forall₂.nil)
