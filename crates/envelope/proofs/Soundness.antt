-- The soundness law: no pattern of a case draws or drops more than the case's envelope. For every file, with no other assumption.
-- Assumes nothing.
use Prim.Native.Nat.{ℕ, ◌≤◌}
use mathlib.Core.Bool.{true}
use mathlib.Core.List
use mathlib.Core.List.{List, [], map}
use mathlib.Core.Path.{◌≡◌, sym, subst, ◌∙◌}
use mathlib.Mathlib.Data.List.Forall2.Forall₂
use lib.ListN.{get_or, get_or-map}
use Rattle.laws.proofs.Pairs.{pairs_at}
use Rattle.excitation.specs.Excitation.{same, l, hl, lh}
use Rattle.excitation.specs.UncertaintySet.{UncertaintySet, member, ◌∈◌, single}
use Rattle.excitation.specs.declared.Excitation.{Excitation}
use Rattle.excitation.proofs.Sets.{same_self, same_gives}
use Rattle.excitation.proofs.OneMember.{member_single}
use Rattle.block.specs.Block.{Choice}
use Rattle.block.specs.Record.{File, net_count}
use Rattle.block.specs.View.{gate_of}
use Rattle.sheet.proofs.Drops.{drop_at_most}
use Rattle.waveform.specs.Waveform.{Waveform, simulation, envelope, waveforms}
use Rattle.waveform.proofs.Within.{Within, waveforms_within}
use Rattle.current.specs.Current.{transitions_from, gate_current, transitions_of, sheet_of}
use Rattle.current.proofs.Contacts.{contact_at_most}
use Rattle.current.proofs.Currents.{current_at_most}
use Rattle.evaluation.specs.Evaluation.{simulated_sheet, envelope_sheet}
use Rattle.envelope.specs.Soundness.{Sound}

-- A transition that a net has is one that its set allows.
allowed_too : (e x : Excitation) (s : UncertaintySet) → x ∈ s → same e x ≡ true → member e s ≡ true
allowed_too e x s m h = subst (λ y. y ∈ s) (sym (same_gives e x h)) m

still_within : Within (record { before = l; ticks = [] }) (record { before = single l; ticks = [] })
still_within = record { before = member_single l l ∙ same_self l; ticks = List.Forall₂.nil }

module _ (hops : ℕ) (file : File) {pattern : List Excitation} {sets : List UncertaintySet} (choice : Choice pattern sets) where
  abbrev simulated : List (Waveform Excitation)
  simulated = waveforms simulation file pattern (net_count file)

  abbrev enveloped : List (Waveform UncertaintySet)
  enveloped = waveforms (envelope hops) file sets (net_count file)

  net_within : (net : ℕ) → Within (get_or simulated net (record { before = l; ticks = [] })) (get_or enveloped net (record { before = single l; ticks = [] }))
  net_within net = pairs_at Within (waveforms_within hops file choice (net_count file)) _ _ still_within net

  wave_at_most : (net t : ℕ) (v : Waveform Excitation) (w : Waveform UncertaintySet) → Within v w
      → gate_current (gate_of file net) (transitions_of simulation v) t ≤ gate_current (gate_of file net) (transitions_of (envelope hops) w) t
  unfolding transitions_of
  wave_at_most net t v w h =
      current_at_most (gate_of file net) (same lh) (same hl) (member lh) (member hl)
      (Forall₂.imp (allowed_too lh) h.ticks)
      (Forall₂.imp (allowed_too hl) h.ticks) t

  gate_at_most : (net t : ℕ)
      → gate_current (gate_of file net) (get_or (map (transitions_of simulation) simulated) net []) t
      ≤ gate_current (gate_of file net) (get_or (map (transitions_of (envelope hops)) enveloped) net []) t
  unfolding transitions_of transitions_from
  gate_at_most net t =
      subst (λ ts. gate_current (gate_of file net) ts t ≤ gate_current (gate_of file net) (get_or (map (transitions_of (envelope hops)) enveloped) net []) t)
      (sym (get_or-map (transitions_of simulation) simulated net (record { before = l; ticks = [] })))
      (subst (λ ts. gate_current (gate_of file net) (transitions_of simulation (get_or simulated net (record { before = l; ticks = [] }))) t ≤ gate_current (gate_of file net) ts t)
      (sym (get_or-map (transitions_of (envelope hops)) enveloped net (record { before = single l; ticks = [] })))
      (wave_at_most net t _ _ (net_within net)))

  sheet_at_most : (c t : ℕ) → simulated_sheet file pattern c t ≤ envelope_sheet hops file sets c t
  unfolding sheet_of
  sheet_at_most c t = contact_at_most file _ _ t (λ net h gate. gate_at_most net t) c

-- The law, for the crates above.
pub soundness : (file : File) → Sound file
soundness file = record {
  draws_no_more = λ hops choice c t. sheet_at_most hops file choice c t;
  drops_no_more = λ hops {pattern} {sets} choice table. drop_at_most table (simulated_sheet file pattern) (envelope_sheet hops file sets) (sheet_at_most hops file choice);
}
