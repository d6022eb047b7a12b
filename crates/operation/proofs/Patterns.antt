-- Laws of the checks on a pattern's bytes: the bytes that are allowed, one for each input, pass, and no others do, so that an accepted
-- pattern is a choice of the frame.
-- Assumes nothing.
use Rattle.block.specs.Verdict.{Verdict, Accepted}
use Rattle.block.specs.declared.verdict.Reason.TheVariants.{WrongPatternByte}
use Prim.Native.Nat.{ℕ, zero, suc, ◌+◌, ◌≤◌, ◌<◌}
use mathlib.Core.Bool.{Bool, true}
use mathlib.Core.List.{List, [], ◌∷◌}
use mathlib.Core.Logic.{⊎_elim}
use mathlib.Core.Path.{◌≡◌, ap, sym, subst, ◌∙◌}
use native.Mathlib.Nat.{eq-or-lt_of_le, le_of_suc-le-suc}
use native.Mathlib.Numerals.{add-one}
use native.Mathlib.Omega.{arith}
use Rattle.block.specs.declared.verdict.Refusal.{Refusal}
use Rattle.block.specs.declared.verdict.Reason.TheVariants.{WrongPatternByte}
use Rattle.std.specs.Prelude.{Err}
use lib.Dec.{leb}
use lib.ListN.{get_or}
use Rattle.laws.specs.Turn.{in_turn, list_below}
use Rattle.laws.proofs.Pairs.{pairs_list}
use Rattle.laws.proofs.Tests.{and_right}
use Rattle.laws.proofs.Turn.{list_next}
use Rattle.excitation.specs.Excitation.{pattern_of}
use Rattle.excitation.specs.UncertaintySet.{◌∈◌}
use Rattle.block.specs.Block.{frame, input_count, Choice}
use Rattle.block.specs.Record.{File}
use Rattle.block.specs.Verdict.{Check, check, verdict}
use Rattle.block.proofs.Verdicts.{all_passed, both_accepted, passed, refused_first, accepted_first}
use Rattle.operation.specs.Pattern.{byte_allowed, byte_checks}

pub bytes_none : (file : File) (pattern : List ℕ) → verdict (byte_checks file pattern 0) ≡ Accepted
unfolding byte_checks list_below in_turn
bytes_none file pattern = sym all_passed

-- Checks made for one number after the other: once one refuses, the verdict stays.
stays_refused : (f : ℕ → Check) (k n : ℕ) (r : Refusal) → verdict (list_below k f) ≡ Err r → k ≤ n → verdict (list_below n f) ≡ Err r
stays_refused f k zero r e h = let same : k ≡ 0 = omega arith in subst (λ m. verdict (list_below m f) ≡ Err r) same e
stays_refused f k (suc n) r e h =
    ⊎_elim (λ (q : k ≡ suc n). subst (λ m. verdict (list_below m f) ≡ Err r) q e)
    (λ l. ap verdict (ap (λ m. list_below m f) (sym (add-one n)) ∙ list_next n f) ∙ refused_first (list_below n f) _ r (stays_refused f k n r e (le_of_suc-le-suc l)))
    (eq-or-lt_of_le h)

-- One byte more, by the code's own check v of it: its refusal is that of all bytes, and where it passes the bytes so far stay accepted.
module _ (file : File) (pattern : List ℕ) (net : ℕ) {s : Bool} {v : Verdict} (told : verdict (byte_checks file pattern net) ≡ Accepted)
    (judged : v ≡ verdict (check WrongPatternByte net s ∷ [])) (same : s ≡ byte_allowed file net (get_or pattern net 0)) where
  next : verdict (byte_checks file pattern (net + 1)) ≡ v
  unfolding byte_checks
  next =
      ap verdict (list_next net (λ n. check WrongPatternByte n (byte_allowed file n (get_or pattern n 0)))) ∙ accepted_first (byte_checks file pattern net) _ told
      ∙ ap (λ b. verdict (check WrongPatternByte net b ∷ [])) (sym same) ∙ sym judged

  pub bytes_refused : (inputs : ℕ) (r : Refusal) → net < inputs → v ≡ Err r → Err r ≡ verdict (byte_checks file pattern inputs)
  unfolding byte_checks
  bytes_refused inputs r h e = sym (stays_refused _ (net + 1) inputs r (next ∙ e) (omega arith))

  pub bytes_next : v ≡ Accepted → verdict (byte_checks file pattern (net + 1)) ≡ Accepted
  bytes_next e = next ∙ e

each_allowed : (file : File) (pattern : List ℕ) (n : ℕ) → verdict (byte_checks file pattern n) ≡ Accepted
    → (k : ℕ) → k < n → byte_allowed file k (get_or pattern k 0) ≡ true
unfolding byte_checks list_below in_turn
each_allowed file pattern zero e k h = absurd (omega arith)
each_allowed file pattern (suc n) e k h =
    let both = both_accepted (byte_checks file pattern n) _ e in
    ⊎_elim (λ (q : k ≡ n). subst (λ m. byte_allowed file m (get_or pattern m 0) ≡ true) (sym q) (passed WrongPatternByte n _ [] both.1).0)
    (λ l. each_allowed file pattern n both.0 k l)
    (eq-or-lt_of_le (le_of_suc-le-suc h))

pub bytes_pass : (file : File) (pattern : List ℕ) (n : ℕ) → ((k : ℕ) → k < n → byte_allowed file k (get_or pattern k 0) ≡ true)
    → verdict (byte_checks file pattern n) ≡ Accepted
unfolding byte_checks list_below in_turn verdict
bytes_pass file pattern zero each = sym all_passed
bytes_pass file pattern (suc n) each =
    accepted_first (byte_checks file pattern n) _ (bytes_pass file pattern n (λ k h. each k (omega arith)))
    ∙ ap (λ b. verdict (check WrongPatternByte n b ∷ [])) (each n (omega arith))

pub pattern_chosen : (file : File) (pattern : List ℕ) → verdict (byte_checks file pattern (input_count file)) ≡ Accepted
    → Choice (pattern_of (input_count file) pattern) (frame file)
unfolding pattern_of frame byte_allowed
pattern_chosen file pattern e =
    pairs_list ◌∈◌ (input_count file) _ _ (λ net h. and_right (leb (get_or pattern net 0) 3) _ (each_allowed file pattern (input_count file) e net h))
