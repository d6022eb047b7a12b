-- The envelope of a pattern's single sets, with nothing filled, is the pattern's simulation.
-- Assumes nothing.
use Prim.Native.Nat.{ℕ, suc, ◌≤◌}
use mathlib.Core.List.{List, [], ◌∷◌, map}
use mathlib.Core.Path.{◌≡◌, refl, ap, sym, subst, ◌∙◌}
use lib.ListN.{get_or}
use Rattle.laws.proofs.Turn.{list_map, list_same}
use Rattle.excitation.specs.Excitation.{same, hl, lh, excitation_of, pattern_of}
use Rattle.excitation.specs.UncertaintySet.{member, decode, empty, single, sets_in}
use Rattle.excitation.specs.declared.Excitation.{Excitation}
use Rattle.excitation.proofs.Codes.{code_below, single_coded, codes_enough, decode_code}
use Rattle.excitation.proofs.OneMember.{member_single}
use Rattle.block.specs.Record.{File, net_count}
use Rattle.waveform.specs.Waveform.{Waveform, simulation, envelope, waveforms}
use Rattle.waveform.proofs.Singles.{singles, waveforms_single}
use Rattle.current.specs.Current.{transitions_from, transitions_of, contact_current, sheet_of}
use Rattle.operation.specs.declared.Currents.{Currents}
use Rattle.evaluation.specs.Evaluation.{simulated_sheet, envelope_sheet, InputCodes, Evaluated}
use Rattle.evaluation.specs.declared.Setting.{Setting}
use Rattle.simulator.specs.Simulate.{PatternCodes, SinglesEvaluated, pattern_sheet}

ticks_single : (x : ℕ) (es : List Excitation) → transitions_from (member lh) (member hl) x (map single es) ≡ transitions_from (same lh) (same hl) x es
unfolding transitions_from
ticks_single x [] = refl
ticks_single x (e ∷ es) = rw (member_single lh e, member_single hl e, ticks_single (suc x) es) refl

transitions_single : (hops : ℕ) (ws : List (Waveform Excitation)) → map (transitions_of (envelope hops)) (map singles ws) ≡ map (transitions_of simulation) ws
unfolding transitions_of
transitions_single hops [] = refl
transitions_single hops (w ∷ ws) = rw (ticks_single 0 w.ticks, transitions_single hops ws) refl

sheet_single : (hops : ℕ) (file : File) (pattern : List Excitation) → 128 ≤ hops → envelope_sheet hops file (map single pattern) ≡ simulated_sheet file pattern
unfolding sheet_of
sheet_single hops file pattern enough =
    ap (contact_current file)
    (ap (map (transitions_of (envelope hops))) (waveforms_single hops enough file pattern (net_count file))
    ∙ transitions_single hops (waveforms simulation file pattern (net_count file)))

-- An evaluation of single sets, with nothing filled.
pub singles_evaluated : {words : List ℕ} {answer : Currents} (setting : Setting) (codes : List ℕ) (hops : ℕ) → 128 ≤ hops
    → Evaluated setting.table.now (envelope_sheet hops setting.file.now (sets_in setting.inputs codes)) answer words
    → SinglesEvaluated setting codes answer words
singles_evaluated {words} {answer} setting codes hops enough e pattern are =
    let file = setting.file.now in
    subst (λ sheet. Evaluated setting.table.now sheet answer words) (ap (envelope_sheet hops file) are ∙ sheet_single hops file pattern enough) e

-- The codes of a pattern: their sets have its excitations as their one members.
module _ {inputs : ℕ} {pattern codes : List ℕ} (coded : PatternCodes inputs pattern codes) where
  pub pattern_codes : InputCodes inputs codes
  pattern_codes = record {
    enough = codes_enough codes (λ net h. rw (coded.at net h) (single_coded _));
    low = λ net h. rw (coded.at net h) (code_below _);
  }

  pub pattern_sets : sets_in inputs codes ≡ map single (pattern_of inputs pattern)
  unfolding sets_in pattern_of
  pattern_sets =
      list_same inputs (λ net. decode (get_or codes net 0)) (λ net. single (excitation_of (get_or pattern net 0))) empty
      (λ net h. ap decode (coded.at net h) ∙ decode_code _)
      ∙ sym (list_map single inputs (λ net. excitation_of (get_or pattern net 0)))

-- A pattern is simulated by its codes.
pub pattern_evaluated : {words : List ℕ} {answer : Currents} (setting : Setting) {pattern codes : List ℕ}
    → PatternCodes setting.inputs pattern codes → SinglesEvaluated setting codes answer words
    → Evaluated setting.table.now (pattern_sheet setting.file.now pattern) answer words
pattern_evaluated {words} {answer} setting {pattern} coded e =
    subst (λ n. Evaluated setting.table.now (simulated_sheet setting.file.now (pattern_of n pattern)) answer words)
    (sym setting.accepted.input_count_lem) (e _ (pattern_sets coded))
