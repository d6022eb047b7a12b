-- What the functions of the second maker promise, step by step (for request 6): the numbers of an input that is tried, or is not.
use Rattle.std.specs.Prelude.{ℕ, ◌<◌, Bool, true, false, List, [], ◌∷◌, map, ◌≡◌, get_or}
use Rattle.excitation.specs.UncertaintySet.{decode, sets_in}
use Rattle.excitation.specs.declared.Excitation.{Excitation}
use Rattle.block.specs.Limits.{drop_limit}
use Rattle.evaluation.specs.declared.Setting.{Setting}
use Rattle.cases.specs.Case.{Case, undecided, children_below}
use Rattle.cases.specs.SplitOrder.{four, child_upper, tried_uppers, tighter}
use Rattle.bounds.specs.Bounds.{pattern_drop, case_drop}
use Rattle.split_order.specs.Sorting.{four_of}
use Rattle.split_order.specs.declared.key.Four.{Four}

-- The numbers of a decided input, which follows all others: no upper number is as great as the first.
abbrev pub decided_key : List ℕ
decided_key = 18446744073709551615 ∷ 0 ∷ 0 ∷ 0 ∷ []

-- The numbers of an input where no input is tried.
pub record UntriedKey (codes : List ℕ) (net : ℕ) (numbers : List ℕ) : Type 0 where
  pub undecided_is : undecided (decode (get_or codes net 0)) ≡ true → numbers ≡ 0 ∷ 0 ∷ 0 ∷ 0 ∷ []
  pub decided_is : undecided (decode (get_or codes net 0)) ≡ false → numbers ≡ decided_key

-- What trying says, whatever simulates a pattern and bounds a case. The frame has these codes, and this many inputs.
module _ (simulated : List Excitation → ℕ) (bound : Case → ℕ) (inputs : ℕ) (codes : List ℕ) where
  -- The upper numbers of the children of the frame of the first n of l, h, hl, lh.
  abbrev pub uppers_below : ℕ → ℕ → List ℕ
  uppers_below input n =
      let frame = sets_in inputs codes in
      map (child_upper simulated bound frame) (children_below n input frame)

  -- The four numbers of an input once the children of the first n excitations are tried.
  pub record ChildrenTried (input n : ℕ) (tried : Four) : Type 0 where
    pub is : four_of tried ≡ four (uppers_below input n)
    pub low : tried.first < drop_limit

  -- The numbers of an input where every undecided one is tried.
  pub record InputTried (net : ℕ) (numbers : List ℕ) : Type 0 where
    pub undecided_is : undecided (decode (get_or codes net 0)) ≡ true
        → (numbers ≡ tried_uppers simulated bound (sets_in inputs codes) net) × (get_or numbers 0 0 < drop_limit)
    pub decided_is : undecided (decode (get_or codes net 0)) ≡ false → numbers ≡ decided_key

  -- Which input of the frame goes ahead of which.
  abbrev pub tighter_by : ℕ → ℕ → Bool
  tighter_by = tighter simulated bound (sets_in inputs codes)

-- The same by the drops under a setting, of a frame with these codes.

abbrev pub TriedBelow : Setting → List ℕ → ℕ → ℕ → Four → Type 0
TriedBelow setting = ChildrenTried (pattern_drop setting) (case_drop setting) setting.inputs

abbrev pub TriedKey : Setting → List ℕ → ℕ → List ℕ → Type 0
TriedKey setting = InputTried (pattern_drop setting) (case_drop setting) setting.inputs

abbrev pub tighter_in : Setting → List ℕ → ℕ → ℕ → Bool
tighter_in setting = tighter_by (pattern_drop setting) (case_drop setting) setting.inputs
