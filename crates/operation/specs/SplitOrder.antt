-- Lists of inputs in the order to be split (request 6): check 19, and what a maker of a list answers.
use Rattle.std.specs.Prelude.{Result, Ok, Err}
use Rattle.block.specs.declared.verdict.Reason.TheVariants.{WrongOrder}
use Rattle.block.specs.declared.verdict.Refusal.{Refusal}
use Rattle.std.specs.Prelude.{ℕ, ◌+◌, ◌-◌, ◌<◌, Bool, ◌&&◌, List, [], ◌∷◌, ◌++◌, ◌≡◌, eqb, length, get_or, replicate}
use Rattle.laws.specs.Below.{all_below, indicator}
use Rattle.block.specs.Verdict.{Check, check}
use Rattle.operation.specs.declared.SplitOrder.{SplitOrder}

-- How often a list names a net.
unfoldable pub times_named : List ℕ → ℕ → ℕ
times_named [] net = 0
times_named (x ∷ rest) net = indicator (eqb x net) + times_named rest net

-- 19. The list is not each input's net exactly once.
unfoldable pub names_each : ℕ → List ℕ → Bool
names_each inputs order = eqb (length order) inputs && all_below inputs (λ net. eqb (times_named order net) 1)

abbrev pub order_check : ℕ → List ℕ → Check
order_check inputs order = check WrongOrder 0 (names_each inputs order)

-- What the search reads a list by: so many nets, each of them an input's.
pub record NetsListed (inputs : ℕ) (order : List ℕ) : Type 0 where
  pub long : length order ≡ inputs
  pub low : (k : ℕ) → k < inputs → get_or order k 0 < inputs

-- A list by value: one byte an input, 0 past the inputs.
unfoldable pub list_bytes : List ℕ → List ℕ
list_bytes order = order ++ replicate (64 - length order) 0

-- A list with the count of the inputs that it names.
abbrev pub split_order : List ℕ → SplitOrder
split_order order = record { inputs = length order; nets = list_bytes order }

-- A lent list after a maker's call: the maker's where it answered with one, as it was at a refusal.
abbrev pub list_after : Result SplitOrder Refusal → List ℕ → List ℕ
list_after (Ok made) given = made.nets
list_after (Err r) given = given
