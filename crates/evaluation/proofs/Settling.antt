-- The settling tick: no contact of an accepted block draws current after it, which bounds the drop's loop and the scan for the quiet tick.
-- Nor does one at tick 0.
-- Assumes nothing.
use Prim.Native.Nat.{ℕ, zero, suc, ◌+◌, ◌*◌, ◌/◌, ◌%◌, ◌≤◌, ◌<◌}
use mathlib.Core.Bool.{false, cond}
use mathlib.Core.List.{List}
use mathlib.Core.Logic.{inr}
use mathlib.Core.Path.{◌≡◌, refl, ap, sym, ◌∙◌}
use native.Mathlib.Omega.{arith}
use lib.Dec.{eqb, ltb}
use lib.ListN.{get_or}
use borrow.Author.Tests.{ltb-true, ltb-false}
use borrow.Table.Steps.{cases}
use Rattle.laws.specs.Below.{max_below}
use Rattle.laws.proofs.Below.{max_at, max_beyond, sum_same, sum_within}
use Rattle.excitation.specs.Excitation.{hl, lh}
use Rattle.excitation.specs.UncertaintySet.{UncertaintySet, member, empty, sets_in}
use Rattle.block.specs.Accepted.{AcceptedFile}
use Rattle.block.specs.Block.{arrivals, arrival, arrival_from, last_pulse_end, settling_tick}
use Rattle.block.specs.Limits.{drop_limit, word_limit}
use Rattle.block.specs.Record.{File, net_count, is_input}
use Rattle.block.specs.View.{gate_of, GateRead}
use Rattle.block.specs.declared.Gate.{Gate}
use Rattle.block.proofs.Accepted.{arrival_at}
use Rattle.sheet.specs.Changes.{restored_in, Restored}
use Rattle.sheet.specs.Quiet.{Empty}
use Rattle.sheet.specs.Sheet.{Sheet, sheet_words, sheet_in, quiet_tick}
use Rattle.sheet.specs.Sums.{Droppable}
use Rattle.sheet.proofs.Changes.{no_change}
use Rattle.sheet.proofs.QuietTick.{quiet_last}
use Rattle.sheet.proofs.Sheets.{sheet_is, drop_of_words, quiet_of_words}
use Rattle.waveform.specs.Waveform.{envelope}
use Rattle.waveform.proofs.Settles.{first_tick, waveform_of, net_settles}
use Rattle.current.specs.Current.{gate_current, part, contact_current, transitions_of, sheet_of}
use Rattle.current.proofs.Contacts.{part_of_gate, part_of_input}
use Rattle.current.proofs.Currents.{current_waits, current_quiet}
use Rattle.operation.specs.declared.Currents.{Currents}
use Rattle.evaluation.specs.Evaluation.{envelope_sheet, sheet_for, BlockDrawn, currents_of, Evaluated}
use Rattle.evaluation.specs.declared.Setting.{Setting}
use Rattle.evaluation.proofs.Drawing.{transition_lists, net_transitions}

-- The tick after which no pulse of a net is left, 0 for an input.
abbrev pub net_settling : File → ℕ → ℕ
net_settling file net = cond (is_input file net) 0 (last_pulse_end (gate_of file net) (get_or (arrivals file (net_count file)) net 0))

pub settling_is : (file : File) → max_below (net_count file) (net_settling file) ≡ settling_tick file
unfolding settling_tick
settling_is file = refl

-- A gate arrives no sooner than its delay.
pub gate_arrives : (file : File) (net : ℕ) → is_input file net ≡ false → (gate_of file net).delay ≤ arrival file net
unfolding arrival_from
gate_arrives file net e = rw e (omega arith)

module _ (file : File) (nets inputs : ℕ) (accepted : AcceptedFile file nets inputs) where
  settling_arrival : (net : ℕ) → net < nets → get_or (arrivals file (net_count file)) net 0 ≡ arrival file net
  settling_arrival net h = arrival_at file (net_count file) net (rw accepted.net_count_lem h)

  pub gate_settling : (net : ℕ) → net < nets → is_input file net ≡ false → net_settling file net ≡ last_pulse_end (gate_of file net) (arrival file net)
  gate_settling net h e = rw (e, settling_arrival net h) refl

  -- The next gate's last pulse, once its arrival is known. It ends in time for the sheet.
  pub next_settling : (net : ℕ) → inputs ≤ net → (h : net < nets) → {gate : Gate} → GateRead file net gate → {arrives end : ℕ} → arrives ≡ arrival file net
      → end ≡ last_pulse_end gate arrives → (end ≡ net_settling file net) × (end < 511)
  unfolding last_pulse_end
  next_settling net low h {gate} read {arrives} {end} at is =
      let no_input = accepted.no_input net low h in
      let ranges = (accepted.gate net low h).ranges in
      let said : end ≡ last_pulse_end (gate_of file net) (arrival file net) =
      is ∙ ap (last_pulse_end gate) at ∙ ap (λ g. last_pulse_end g (arrival file net)) read.is in
      (said ∙ sym (gate_settling net h no_input), omega (arith, said, accepted.arrives net h, gate_arrives file net no_input, ranges.delay_low, ranges.rise_high, ranges.fall_high))

  pub inputs_settling : max_below inputs (net_settling file) ≡ 0
  unfolding max_below
  inputs_settling = max_beyond inputs 0 (net_settling file) (omega arith) (λ net l h. rw (accepted.input net h).input refl)

  settling_within : (net : ℕ) → net < nets → net_settling file net ≤ settling_tick file
  settling_within net h = let m = max_at (net_count file) (net_settling file) net (rw accepted.net_count_lem h) in omega (arith, settling_is file)

  module _ (hops : ℕ) (sets : List UncertaintySet) where
    -- The current of the gate of a net.
    abbrev drawn_by : ℕ → ℕ → ℕ
    drawn_by net t = gate_current (gate_of file net) (transitions_of (envelope hops) (waveform_of file nets inputs accepted hops sets net)) t

    -- At a tick at which no gate draws, no contact does.
    module _ (t : ℕ) (none : (net : ℕ) → inputs ≤ net → net < nets → drawn_by net t ≡ 0) where
      part_none : (c net : ℕ) → net < nets → part file (transition_lists file hops sets) c t net ≡ 0
      part_none c net high =
          cases (ltb net inputs)
          (λ b. part_of_input file _ c t net (accepted.input net (ltb-true net inputs b)).input)
          (λ b. let low = ltb-false net inputs b in
          part_of_gate file _ c t net (accepted.no_input net low high)
          ∙ cases (eqb (gate_of file net).contact c)
          (λ e. rw e (ap (λ ts. gate_current (gate_of file net) ts t) (net_transitions file nets inputs accepted hops sets net high) ∙ none net low high))
          (λ e. rw e refl))

      sheet_none : (c : ℕ) → sheet_of (envelope hops) file sets c t ≡ 0
      unfolding sheet_of contact_current
      sheet_none c =
          let within = sum_within (net_count file) (part file (transition_lists file hops sets) c t) 0
          (λ net l. let m : net < nets = rw accepted.net_count_lem at l in let e = part_none c net m in omega arith) in
          omega arith

    gate_quiet : (t net : ℕ) → inputs ≤ net → net < nets → settling_tick file < t → drawn_by net t ≡ 0
    unfolding transitions_of last_pulse_end
    gate_quiet t net low high h =
        let settles = net_settles file nets inputs accepted hops sets net high in
        let no_input = accepted.no_input net low high in
        let within = settling_within net high in
        let is = gate_settling net high no_input in
        let arrives = gate_arrives file net no_input in
        current_quiet (gate_of file net) (member lh) (member hl) _ empty (arrival file net) t (λ x l. (settles.late x l).no_lh)
        (λ x l. (settles.late x l).no_hl) (omega arith)

    gate_waits : (net : ℕ) → inputs ≤ net → net < nets → drawn_by net 0 ≡ 0
    unfolding transitions_of
    gate_waits net low high =
        let settles = net_settles file nets inputs accepted hops sets net high in
        let first : first_tick file net ≡ (gate_of file net).delay = rw (accepted.no_input net low high) refl in
        current_waits (gate_of file net) (member lh) (member hl) _ empty (gate_of file net).delay 0 (λ x l. (settles.early x (rw first l)).no_lh)
        (λ x l. (settles.early x (rw first l)).no_hl) (omega arith)

    -- No current flows after the settling tick.
    pub sheet_quiet : (c t : ℕ) → settling_tick file < t → sheet_of (envelope hops) file sets c t ≡ 0
    sheet_quiet c t h = sheet_none t (λ net low high. gate_quiet t net low high h) c

    -- Nor at tick 0. So a quiet tick of 0 means an empty sheet.

    pub sheet_waits : (c : ℕ) → sheet_of (envelope hops) file sets c 0 ≡ 0
    sheet_waits = sheet_none 0 gate_waits

    pub quiet_empty : quiet_tick (envelope_sheet hops file sets) ≡ 0 → Empty (envelope_sheet hops file sets)
    quiet_empty e = (quiet_last (envelope_sheet hops file sets)).at (λ c h. ap (envelope_sheet hops file sets c) e ∙ sheet_waits c)

-- A block that is drawn, once the currents are restored up to past the settling tick.
module _ {setting : Setting} {codes words after : List ℕ} {settling : ℕ}
    (drawn : BlockDrawn setting codes settling words) (restored : Restored (settling + 2) words after)
    (fits : (i : ℕ) → get_or words i 0 < word_limit) where
  abbrev drawn_sheet : Sheet
  drawn_sheet = sheet_for setting codes

  quiet_after : (c t : ℕ) → settling < t → drawn_sheet c t ≡ 0
  quiet_after c t h =
      sheet_quiet setting.file.now setting.nets setting.inputs setting.accepted setting.hops (sets_in setting.inputs codes) c t (omega (arith, drawn.settled))

  -- Past the ticks that are restored the words are the currents already: no current flows, so that nothing changes.
  still_after : (c t : ℕ) → c < 16 → settling + 2 ≤ suc t → suc t < 512 → sheet_in words c (suc t) ≡ 0
  still_after c t h late l =
      no_change (sheet_in words c) t (fits (512 * c + suc t))
      (drawn.at c (suc t) h l ∙ quiet_after c (suc t) (omega arith) ∙ sym (drawn.at c t h (omega arith) ∙ quiet_after c t (omega arith)))

  word_restored : (c t : ℕ) → c < 16 → t < 512 → sheet_in after c t ≡ drawn_sheet c t
  word_restored c zero h l = restored.before c 0 h (omega arith) ∙ drawn.at c 0 h l
  word_restored c (suc t) h l =
      cases (ltb (suc t) (settling + 2))
      (λ b. restored.before c (suc t) h (ltb-true (suc t) (settling + 2) b) ∙ drawn.at c (suc t) h l)
      (λ b. let late = ltb-false (suc t) (settling + 2) b in
      restored.rest c (suc t) h l (inr late) ∙ still_after c t h late l ∙ sym (quiet_after c (suc t) (omega arith)))

  sheet_restored : after ≡ sheet_words drawn_sheet
  sheet_restored =
      sheet_is after drawn_sheet restored.long
      (λ i h. let place : 512 * (i / 512) + i % 512 ≡ i = omega arith in
      sym (ap (λ j. get_or after j 0) place) ∙ word_restored (i / 512) (i % 512) (omega arith) (omega arith))

  -- Its rows are 0 from the tick after the settling tick on, and at no tick do they draw more than all gates may.
  pub restored_droppable : Droppable (settling + 1) after
  restored_droppable = record {
    quiet = record {
      ticks = omega (arith, drawn.soon);
      long = restored.long;
      rows = λ c t h late inside. word_restored c t h inside ∙ quiet_after c t (omega arith);
    };
    most = λ t h. omega (
      arith,
      drawn.most t h,
      sum_same 16 (λ c. sheet_in after c t) (λ c. restored_in words c t)
          (λ c l. word_restored c t l h ∙ sym (drawn.at c t l h)),
    );
  }

  -- With its drop taken and its quiet tick found, it is evaluated.
  pub evaluated : {table : List ℕ} {answer : Currents} → answer ≡ currents_of table (sheet_in after) → answer.drop < drop_limit
      → Evaluated table drawn_sheet answer after
  evaluated {table} is low = record {
    answered = is
        ∙ (λ i. record { drop = drop_of_words table drawn_sheet sheet_restored i; quiet = quiet_of_words drawn_sheet sheet_restored i });
    written = sheet_restored;
    low = low;
  }
