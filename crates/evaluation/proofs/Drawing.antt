-- The gates drawn one after the other make the sheet of the definitions.
-- Assumes nothing.
use Prim.Native.Nat.{ℕ, ◌+◌, ◌*◌, ◌≤◌, ◌<◌}
use mathlib.Core.Bool.{true, false, cond}
use mathlib.Core.List.{List, [], ◌∷◌, ◌++◌, map}
use mathlib.Core.Path.{◌≡◌, refl, ap, sym, subst, ◌∙◌}
use native.Mathlib.Omega.{arith}
use lib.Dec.{eqb}
use lib.ListN.{length, get_or, get_or-map}
use borrow.Author.Count.{below_more}
use Rattle.laws.specs.Below.{sum_below}
use Rattle.laws.specs.Turn.{in_turn, list_below}
use Rattle.laws.proofs.Below.{max_same, sum_next, sum_within, sum_at}
use Rattle.laws.proofs.Turn.{turn_next, turn_is, list_at, list_long, list_next, list_same}
use Rattle.excitation.specs.Excitation.{l}
use Rattle.excitation.specs.UncertaintySet.{UncertaintySet, empty, single, Held, sets_in}
use Rattle.excitation.proofs.Codes.{set_at}
use Rattle.block.specs.Accepted.{AcceptedFile, GateRecord}
use Rattle.block.specs.Block.{latest_pin, arrival_from, arrivals, arrival, switching_tick}
use Rattle.block.specs.Limits.{gate_limit}
use Rattle.block.specs.Record.{File, net_count, is_input}
use Rattle.block.specs.View.{pin_of, GateRead}
use Rattle.block.specs.declared.Gate.{Gate}
use Rattle.block.proofs.Accepted.{arrival_at}
use Rattle.sheet.specs.Changes.{restored_in}
use Rattle.sheet.specs.Words.{Cleared}
use Rattle.sheet.proofs.Changes.{cleared_restored}
use Rattle.sheet.proofs.Totals.{total_cleared}
use Rattle.rows.specs.Rows.{set_in}
use Rattle.waveform.specs.Rows.{waveform_in, waveforms_in, arrival_in, arrivals_in, latest_in, SettledRow, Ready, GateMade}
use Rattle.waveform.specs.Waveform.{envelope, input_waveform, gate_waveform, net_waveform, waveforms}
use Rattle.waveform.proofs.Settles.{SwitchesWithin, first_tick, waveform_of, waveform_at, net_settles}
use Rattle.waveform.proofs.Waveforms.{net_input, net_gate}
use Rattle.current.specs.Current.{Transition, transitions_from, gate_current, part, contact_current, transitions_of, sheet_of}
use Rattle.current.specs.Drawing.{transitions_in, Drawable, Drawn}
use Rattle.current.proofs.Contacts.{part_of_gate, part_of_input}
use Rattle.current.proofs.Totals.{total_drawn}
use Rattle.evaluation.specs.Evaluation.{HasRows, InputsMade}
use Rattle.evaluation.proofs.Rows.{has_row, waveform_kept, arrival_kept, settled_kept}

-- The transitions of every net.
abbrev pub transition_lists : File → ℕ → List UncertaintySet → List (List Transition)
transition_lists file hops sets = map (transitions_of (envelope hops)) (waveforms (envelope hops) file sets (net_count file))

-- The buffers once the first n nets are evaluated. At each tick no more flows than n gates may draw.
pub record Evaluating (file : File) (hops : ℕ) (sets : List UncertaintySet) (n : ℕ) (work words : List ℕ) : Type 0 where
  pub waves : waveforms_in work n ≡ waveforms (envelope hops) file sets n
  pub times : arrivals_in work n ≡ arrivals file n
  pub settled : (net : ℕ) → net < n → SettledRow work net
  pub long : length words ≡ 8192
  pub at : (c t : ℕ) → c < 16 → t < 512 → restored_in words c t ≡ sum_below n (part file (transition_lists file hops sets) c t)
  pub most : (t : ℕ) → t < 512 → sum_below 16 (λ c. restored_in words c t) ≤ n * gate_limit

module _ (file : File) (nets inputs : ℕ) (accepted : AcceptedFile file nets inputs) (hops : ℕ) (sets : List UncertaintySet) where
  abbrev transitions : List (List Transition)
  transitions = transition_lists file hops sets

  pub net_transitions : (net : ℕ) → net < nets
      → get_or transitions net [] ≡ transitions_of (envelope hops) (waveform_of file nets inputs accepted hops sets net)
  unfolding transitions_of transitions_from
  net_transitions net h =
      get_or-map (transitions_of (envelope hops)) (waveforms (envelope hops) file sets (net_count file)) net (record { before = empty; ticks = [] })
      ∙ ap (transitions_of (envelope hops)) (waveform_at file nets inputs accepted hops sets (net_count file) net _ (rw accepted.net_count_lem h))

  module _ {n : ℕ} {work words : List ℕ} (done : Evaluating file hops sets n work words) (few : n ≤ nets) where
    time_in : (m : ℕ) → m < n → arrival_in work m ≡ arrival file m
    unfolding arrivals_in
    time_in m h = sym (list_at n (arrival_in work) m 0 h) ∙ ap (λ ts. get_or ts m 0) done.times ∙ arrival_at file n m h

    -- The next net is a gate, which is read.
    module _ (low : inputs ≤ n) (here : n < nets) {gate : Gate} (read : GateRead file n gate) where
      pub next_checked : GateRecord n gate
      next_checked = subst (GateRecord n) (sym read.is) (accepted.gate n low here)

      no_input : is_input file n ≡ false
      no_input = accepted.no_input n low here

      latest_in_lem : latest_in gate work ≡ latest_pin gate (arrivals file n)
      unfolding latest_in latest_pin
      latest_in_lem =
          max_same gate.used _ _
          (λ p h. let b = next_checked.pin_below p h in time_in (pin_of gate p) b ∙ sym (arrival_at file n (pin_of gate p) b))

      arrival_is : latest_in gate work + gate.delay ≡ arrival file n
      unfolding arrival_from
      arrival_is = rw (no_input, latest_in_lem) (ap (λ g. latest_pin g (arrivals file n) + g.delay) read.is)

      -- Its waveform can be made.
      pub next_ready : HasRows work nets → Ready n gate work
      next_ready rows = record {
        checked = next_checked;
        room = has_row n rows here;
        settled = λ p h. done.settled (pin_of gate p) (next_checked.pin_below p h);
        in_time = (let a = accepted.arrives n here in omega (arith, arrival_is, a));
      }

      module _ {after : List ℕ} (made : GateMade n gate hops work after) where
        pub next_arrives : arrival_in after n ≡ arrival file n
        next_arrives = made.arrives ∙ arrival_is

        waves_kept : waveforms_in after n ≡ waveforms_in work n
        unfolding waveforms_in
        waves_kept = list_same n (waveform_in after) (waveform_in work) (waveform_in work 0) (λ m h. waveform_kept made.others m (λ e. omega arith))

        times_kept : arrivals_in after n ≡ arrivals_in work n
        unfolding arrivals_in
        times_kept = list_same n (arrival_in after) (arrival_in work) 0 (λ m h. arrival_kept made.others m (λ e. omega arith))

        made_is : waveform_in after n ≡ net_waveform (envelope hops) file sets (waveforms (envelope hops) file sets n) n
        made_is =
            made.waveform ∙ ap (gate_waveform (envelope hops) gate) done.waves
            ∙ ap (λ g. gate_waveform (envelope hops) g (waveforms (envelope hops) file sets n)) read.is
            ∙ sym (net_gate (envelope hops) file sets (waveforms (envelope hops) file sets n) n no_input)

        waves_next : waveforms_in after (n + 1) ≡ waveforms (envelope hops) file sets (n + 1)
        unfolding waveforms_in waveforms
        waves_next =
            list_next n (waveform_in after) ∙ ap (λ ws. ws ++ (waveform_in after n ∷ [])) (waves_kept ∙ done.waves)
            ∙ ap (λ w. waveforms (envelope hops) file sets n ++ (w ∷ [])) made_is
            ∙ sym (turn_next (net_waveform (envelope hops) file sets) n)

        times_next : arrivals_in after (n + 1) ≡ arrivals file (n + 1)
        unfolding arrivals_in arrivals
        times_next =
            list_next n (arrival_in after) ∙ ap (λ ts. ts ++ (arrival_in after n ∷ [])) (times_kept ∙ done.times)
            ∙ ap (λ t. arrivals file n ++ (t ∷ [])) next_arrives ∙ sym (turn_next (arrival_from file) n)

        set_is : (t : ℕ) → t < 256 → set_in after n t ≡ get_or (waveform_of file nets inputs accepted hops sets n).ticks t empty
        unfolding waveform_in waveform_of
        set_is t h = sym (list_at 256 (set_in after n) t empty h) ∙ ap (λ w. get_or w.ticks t empty) made_is

        settles : SwitchesWithin (first_tick file n) (arrival file n) (waveform_of file nets inputs accepted hops sets n)
        settles = net_settles file nets inputs accepted hops sets n here

        first_tick_lem : first_tick file n ≡ gate.delay
        first_tick_lem = rw no_input (ap (λ g. g.delay) (sym read.is))

        early : (t : ℕ) → t < gate.delay → Held (set_in after n t)
        early t h =
            let short = next_checked.ranges.delay_high in
            subst Held (sym (set_is t (omega arith))) (settles.early t (rw first_tick_lem h))

        -- It can be drawn.
        current_low : (c t : ℕ) → c < 16 → t < 512 → restored_in words c t ≤ n * gate_limit
        current_low c t h l = omega (arith, sum_at 16 (λ c. restored_in words c t) c h, done.most t l)

        pub next_drawable : HasRows work nets → Drawable gate after n words
        next_drawable rows = record {
          ranges = next_checked.ranges;
          fits = read.fits;
          row = has_row n (record { whole = omega (arith, rows.whole, made.others.long); numbered = rows.numbered }) here;
          no_rise_before = λ t h. (early t h).no_lh;
          no_fall_before = λ t h. (early t h).no_hl;
          long = done.long;
          room = λ c t h l. (let q = accepted.few_nets in omega (arith, current_low c t h l));
        }

        transitions_are : transitions_in after n ≡ get_or transitions n []
        unfolding transitions_in transitions_of waveform_of
        transitions_are = ap (transitions_of (envelope hops)) made_is ∙ sym (net_transitions n (omega arith))

        part_is : (c t : ℕ) → cond (eqb gate.contact c) (gate_current gate (transitions_in after n) t) 0 ≡ part file transitions c t n
        part_is c t =
            ap (λ ts. cond (eqb gate.contact c) (gate_current gate ts t) 0) transitions_are
            ∙ ap (λ g. cond (eqb g.contact c) (gate_current g (get_or transitions n []) t) 0) read.is
            ∙ sym (part_of_gate file transitions c t n no_input)

        -- And then it is evaluated.
        pub next_evaluated : {drawn : List ℕ} → Drawn gate (transitions_in after n) words drawn → Evaluating file hops sets (n + 1) after drawn
        next_evaluated drawn = record {
          waves = waves_next;
          times = times_next;
          settled = below_more (SettledRow after) n (λ net h. settled_kept made.others net (λ e. omega arith) (done.settled net h)) made.settled;
          long = drawn.long;
          at = λ c t h l. drawn.at c t h l ∙ rw (done.at c t h l, part_is c t) (sym (sum_next n (part file transitions c t)));
          most = λ t h. (let more = total_drawn drawn t h in let before = done.most t h in omega arith);
        }

  -- Every gate is evaluated: the changes give the definition's sheet.
  pub all_evaluated : {work words : List ℕ} → Evaluating file hops sets nets work words → (c t : ℕ) → c < 16 → t < 512
      → restored_in words c t ≡ sheet_of (envelope hops) file sets c t
  unfolding sheet_of contact_current
  all_evaluated done c t h l = done.at c t h l ∙ ap (λ n. sum_below n (part file transitions c t)) (sym accepted.net_count_lem)

input_arrives : (file : File) (below : List ℕ) (net : ℕ) → is_input file net ≡ true → arrival_from file below net ≡ switching_tick file net
unfolding arrival_from
input_arrives file below net e = rw e refl

-- The inputs are evaluated: their waveforms are made, and the sheet is empty.
module _ (file : File) (nets inputs : ℕ) (accepted : AcceptedFile file nets inputs) (hops : ℕ) (codes : List ℕ) where
  abbrev sets : List UncertaintySet
  sets = sets_in inputs codes

  inputs_quiet : (c t n : ℕ) → n ≤ inputs → sum_below n (part file (transition_lists file hops sets) c t) ≡ 0
  inputs_quiet c t n h =
      let none = sum_within n (part file (transition_lists file hops sets) c t) 0
      (λ net l. let e = part_of_input file (transition_lists file hops sets) c t net (accepted.input net (omega arith)).input in omega arith) in
      omega arith

  pub inputs_evaluated : {given work words : List ℕ} → InputsMade file inputs codes given work → Cleared words
      → Evaluating file hops sets inputs work words
  unfolding waveforms_in arrivals_in waveforms arrivals
  inputs_evaluated {given} {work} {words} made clear = record {
    waves = turn_is (net_waveform (envelope hops) file sets) inputs (waveform_in work 0) (list_below inputs (waveform_in work)) (list_long inputs (waveform_in work))
        (λ net h. list_at inputs (waveform_in work) net _ h ∙ made.waveform net h hops
        ∙ ap (input_waveform (envelope hops) (switching_tick file net)) (sym (set_at inputs codes net (single l) h))
        ∙ sym (net_input (envelope hops) file sets _ net (accepted.input net h).input));
    times = turn_is (arrival_from file) inputs 0 (list_below inputs (arrival_in work)) (list_long inputs (arrival_in work))
        (λ net h. list_at inputs (arrival_in work) net 0 h ∙ made.arrives net h ∙ sym (input_arrives file (in_turn (arrival_from file) net) net (accepted.input net h).input));
    settled = made.settled;
    long = clear.long;
    at = λ c t h l. cleared_restored clear c t ∙ sym (inputs_quiet c t inputs (omega arith));
    most = λ t h. omega (arith, total_cleared clear t);
  }
