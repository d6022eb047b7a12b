-- Laws of two lists that are related place by place.
-- Assumes nothing.
use Prim.Native.Nat.{ℕ, zero, suc, ◌<◌}
use mathlib.Core.Path.{◌≡◌, refl, ap, sym, subst, ◌∙◌}
use mathlib.Core.List.{List, [], ◌∷◌, ◌++◌, Forall₂}
use native.Mathlib.Omega.{arith}
use lib.ListN.{length, get_or}
use Rattle.laws.specs.Turn.{list_below}
use Rattle.laws.proofs.Turn.{list_long, list_at}

module _ {A B : Type 0} (R : A → B → Type 0) where
  pub pairs_at : {xs : List A} {ys : List B} → Forall₂ R xs ys → (a : A) (b : B) → R a b → (k : ℕ) → R (get_or xs k a) (get_or ys k b)
  pairs_at Forall₂.nil a b r k = r
  pairs_at (Forall₂.cons h t) a b r zero = h
  pairs_at (Forall₂.cons h t) a b r (suc k) = pairs_at t a b r k

  pub pairs_in : {xs : List A} {ys : List B} → Forall₂ R xs ys → (a : A) (b : B) (k : ℕ) → k < length xs → R (get_or xs k a) (get_or ys k b)
  pairs_in Forall₂.nil a b k l = absurd (omega arith)
  pairs_in (Forall₂.cons h t) a b zero l = h
  pairs_in (Forall₂.cons h t) a b (suc k) l = pairs_in t a b k (omega arith)

  pub pairs_long : {xs : List A} {ys : List B} → Forall₂ R xs ys → length xs ≡ length ys
  pairs_long Forall₂.nil = refl
  pairs_long (Forall₂.cons h t) = ap suc (pairs_long t)

  pub pairs_append : {xs xs' : List A} {ys ys' : List B} → Forall₂ R xs ys → Forall₂ R xs' ys' → Forall₂ R (xs ++ xs') (ys ++ ys')
  pairs_append Forall₂.nil k = k
  pairs_append (Forall₂.cons h t) k = Forall₂.cons h (pairs_append t k)

  pub pairs_from : (a : A) (b : B) (xs : List A) (ys : List B) → length xs ≡ length ys
      → ((k : ℕ) → k < length xs → R (get_or xs k a) (get_or ys k b)) → Forall₂ R xs ys
  pairs_from a b [] [] e h = Forall₂.nil
  pairs_from a b [] (y ∷ ys) e h = absurd (omega arith)
  pairs_from a b (x ∷ xs) [] e h = absurd (omega arith)
  pairs_from a b (x ∷ xs) (y ∷ ys) e h =
      Forall₂.cons (h zero (omega arith)) (pairs_from a b xs ys (omega arith) (λ k l. h (suc k) (omega arith)))

  pub pairs_list : (n : ℕ) (f : ℕ → A) (g : ℕ → B) → ((k : ℕ) → k < n → R (f k) (g k)) → Forall₂ R (list_below n f) (list_below n g)
  pairs_list n f g h =
      pairs_from (f 0) (g 0) (list_below n f) (list_below n g) (list_long n f ∙ sym (list_long n g))
      (λ k l. let m : k < n = rw (list_long n f) at l in
      subst (λ x. R x (get_or (list_below n g) k (g 0))) (sym (list_at n f k (f 0) m)) (subst (R (f k)) (sym (list_at n g k (g 0) m)) (h k m)))
