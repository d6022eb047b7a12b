-- The waveform that the code writes for an input is the definition's.
-- Assumes nothing.
use Prim.Native.Nat.{ℕ, ◌+◌, ◌<◌}
use mathlib.Core.Bool.{cond}
use mathlib.Core.List.{List}
use mathlib.Core.Path.{◌≡◌, refl, ap, sym, ◌∙◌}
use native.Mathlib.Omega.{arith}
use lib.Dec.{ltb}
use borrow.Author.Tests.{ltb-true, ltb-false, le-ltb, eq-eqb, ne_eqb}
use borrow.Table.Steps.{cases}
use Rattle.laws.specs.Settled.{SettledAfter}
use Rattle.laws.proofs.Turn.{list_same}
use Rattle.excitation.specs.UncertaintySet.{UncertaintySet, code, decode, held_before_set, held_after_set}
use Rattle.excitation.proofs.Codes.{decode_code}
use Rattle.rows.specs.Rows.{set_in, RowMade}
use Rattle.waveform.specs.Rows.{waveform_in, input_at, EndsWritten, InputMade}
use Rattle.waveform.specs.Waveform.{envelope, input_waveform}
use Rattle.waveform.proofs.Waveforms.{waveform_is}
use Rattle.waveform.proofs.Written.{row_others, others_then, settled_as}

module _ (switching : ℕ) (s : UncertaintySet) where
  -- The set of an input at a tick, chosen as the code chooses it.
  input_at_lem : (t : ℕ) → cond (ltb t switching) (held_before_set s) (cond (ltb t (switching + 1)) s (held_after_set s)) ≡ input_at switching s t
  unfolding input_at
  input_at_lem t =
      cases (ltb t switching)
      (λ a. rw a refl)
      (λ a. let m = ltb-false t switching a in
      rw a
      (cases (ltb t (switching + 1))
      (λ b. let n = ltb-true t (switching + 1) b in rw (b, eq-eqb t switching (omega arith)) refl)
      (λ b. let n = ltb-false t (switching + 1) b in rw (b, ne_eqb t switching (λ e. omega arith)) refl)))

  pub chosen_at : (t : ℕ) {x y z r : UncertaintySet} → r ≡ cond (ltb t switching) x (cond (ltb t (switching + 1)) y z)
      → x ≡ held_before_set s → y ≡ s → z ≡ held_after_set s → r ≡ input_at switching s t
  chosen_at t chosen before here after =
      chosen ∙ (λ i. cond (ltb t switching) (before i) (cond (ltb t (switching + 1)) (here i) (after i))) ∙ input_at_lem t

  -- It is the same after the tick at which the input switches.
  input_after : (t : ℕ) → switching < t → input_at switching s t ≡ held_after_set s
  unfolding input_at
  input_after t h = rw (le-ltb t switching (omega arith), ne_eqb t switching (λ e. omega arith)) refl

  input_settled : SettledAfter switching (input_at switching s)
  input_settled = record { same = λ t h q. input_after t h ∙ sym (input_after 255 (omega arith)) }

module _ (net switching given : ℕ) (work made after : List ℕ) (row : RowMade (input_at switching (decode given)) net 256 work made)
    (ends : EndsWritten net (code (held_before_set (decode given))) switching switching made after) where
  set_is : (t : ℕ) → t < 256 → set_in after net t ≡ input_at switching (decode given) t
  set_is t h = ends.sets t h ∙ row.sets t h

  input_waveform_lem : (hops : ℕ) → waveform_in after net ≡ input_waveform (envelope hops) switching (decode given)
  unfolding waveform_in input_waveform input_at
  input_waveform_lem hops =
      waveform_is _ _ (ap decode ends.earliest ∙ decode_code _) (list_same 256 _ _ (decode given) set_is)

  pub input_made : InputMade net switching given work after
  input_made = record {
    others = others_then (row_others row) ends.others;
    waveform = input_waveform_lem;
    arrives = ends.arrives;
    settled = record {
      soon = omega (arith, ends.arrives, ends.settles);
      settled = rw ends.settles (settled_as set_is (input_settled switching (decode given)));
    };
  }
