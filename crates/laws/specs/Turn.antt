-- Lists whose values are made in turn.
use Rattle.std.specs.Prelude.{ℕ, zero, suc, List, [], ◌∷◌, ◌++◌}

-- The first n values, each made from those before it and its own number. What is made of a block net by net is such a list.
unfoldable pub in_turn : {A : Type 0} → (List A → ℕ → A) → ℕ → List A
in_turn make zero = []
in_turn make (suc n) = let made = in_turn make n in made ++ (make made n ∷ [])

-- The values of f below n, in order: made in turn, none of them from those before it.
unfoldable pub list_below : {A : Type 0} → ℕ → (ℕ → A) → List A
list_below n f = in_turn (λ made k. f k) n
