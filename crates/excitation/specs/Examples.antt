-- Examples of excitations and sets (document 01, "Examples, starred ones proved"), with Figure 5 of document 000 and the AND classes of
-- source document 001.
use Rattle.std.specs.Prelude.{ℕ, zero, suc, ◌/◌, ◌%◌, ◌≡◌, cond, ◌&&◌, ◌||◌, List, [], ◌∷◌, ◌++◌, map, eqb}
use Rattle.std.specs.Bool.{xor}
use Rattle.excitation.specs.declared.Excitation.{Excitation}
use Rattle.excitation.specs.Excitation.{TwoLevel, Level, excitation, l, h, hl, lh, same, join_excitations, invert_excitation}
use Rattle.excitation.specs.UncertaintySet.{code, decode, join_sets, size}

-- l, h, hl and lh, in the order of Figure 5.
abbrev excitations : List Excitation
excitations = l ∷ h ∷ hl ∷ lh ∷ []

-- Figure 5's square for a function of two levels: a row for each first excitation.
abbrev square : TwoLevel → List (List Excitation)
square f = map (λ a. map (λ b. join_excitations f a b) excitations) excitations

-- The binary digit of n that has this weight.
abbrev bit : ℕ → ℕ → Level
bit n weight = eqb (n / weight % 2) 1

-- The output transition of row n of document 001's table of a two-input AND gate. The four binary digits of n are the two inputs
-- before, then the two inputs after.
abbrev output_of : ℕ → Excitation
output_of n = join_excitations ◌&&◌ (excitation (bit n 8) (bit n 2)) (excitation (bit n 4) (bit n 1))

-- The rows below n whose output is e.
unfoldable pub class_of : Excitation → ℕ → List ℕ
class_of e zero = []
class_of e (suc n) = class_of e n ++ cond (same (output_of n) e) (n ∷ []) []

pub record SetExamples : Type 0 where
  -- Figure 5 of document 000.
  pub figure5_and :
      square ◌&&◌ ≡ (l ∷ l ∷ l ∷ l ∷ []) ∷ (l ∷ h ∷ hl ∷ lh ∷ []) ∷ (l ∷ hl ∷ hl ∷ l ∷ []) ∷ (l ∷ lh ∷ l ∷ lh ∷ []) ∷ []
  pub figure5_or :
      square ◌||◌ ≡ (l ∷ h ∷ hl ∷ lh ∷ []) ∷ (h ∷ h ∷ h ∷ h ∷ []) ∷ (hl ∷ h ∷ hl ∷ h ∷ []) ∷ (lh ∷ h ∷ h ∷ lh ∷ []) ∷ []
  pub figure5_not : map invert_excitation excitations ≡ h ∷ l ∷ lh ∷ hl ∷ []
  -- ★ Sets 12 and 12: AND 13, OR 14, XOR 3.
  pub and_12_12 : code (join_sets ◌&&◌ (decode 12) (decode 12)) ≡ 13
  pub or_12_12 : code (join_sets ◌||◌ (decode 12) (decode 12)) ≡ 14
  pub xor_12_12 : code (join_sets xor (decode 12) (decode 12)) ≡ 3
  -- ★ A set 0 gives 0.
  pub zero_first : (f : TwoLevel) (n : ℕ) → code (join_sets f (decode 0) (decode n)) ≡ 0
  pub zero_second : (f : TwoLevel) (n : ℕ) → code (join_sets f (decode n) (decode 0)) ≡ 0
  -- AND classes are those of source document 001.
  pub class_l : class_of l 16 ≡ 0 ∷ 1 ∷ 2 ∷ 4 ∷ 5 ∷ 6 ∷ 8 ∷ 9 ∷ 10 ∷ []
  pub class_lh : class_of lh 16 ≡ 3 ∷ 7 ∷ 11 ∷ []
  pub class_hl : class_of hl 16 ≡ 12 ∷ 13 ∷ 14 ∷ []
  pub class_h : class_of h 16 ≡ 15 ∷ []
  -- How many members some sets have.
  pub sizes : map (λ n. size (decode n)) (0 ∷ 1 ∷ 2 ∷ 4 ∷ 8 ∷ 6 ∷ 13 ∷ 15 ∷ []) ≡ 0 ∷ 1 ∷ 1 ∷ 1 ∷ 1 ∷ 2 ∷ 3 ∷ 4 ∷ []
