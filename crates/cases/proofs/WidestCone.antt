-- The list by cone chooses as document 01 does: the undecided input with most gates in its cone, lowest net on a tie.
-- Assumes nothing.
use Prim.Native.Nat.{ℕ, zero, suc, ◌≤◌}
use mathlib.Core.Bool.{Bool, true, false, cond, false≢true}
use mathlib.Core.List.{List, [], ◌∷◌}
use mathlib.Core.Path.{◌≡◌, refl, ap, sym, ◌∙◌}
use native.Mathlib.Nat.{le_refl, le_trans}
use native.Mathlib.Omega.{arith}
use lib.Dec.{eqb, ltb}
use lib.ListN.{get_or}
use borrow.Author.Tests.{eqb-true, ltb-true, ltb-false, lt-ltb, le-ltb}
use borrow.Table.Steps.{cases}
use Rattle.laws.specs.Below.{argmax}
use Rattle.excitation.specs.UncertaintySet.{empty}
use Rattle.operation.specs.SplitOrder.{times_named}
use Rattle.cases.specs.Case.{Case, undecided}
use Rattle.cases.specs.Choice.{first_undecided, rank_of}
use Rattle.cases.specs.SplitOrder.{put_in, in_order, wider}
use Rattle.cases.proofs.SplitOrder.{once_named}

suc_ltb : (a b : ℕ) → ltb (suc a) (suc b) ≡ ltb a b
suc_ltb a b =
    cases (ltb a b)
    (λ t. lt-ltb (suc a) (suc b) (let h = ltb-true a b t in omega arith) ∙ sym t)
    (λ t. le-ltb (suc a) (suc b) (let h = ltb-false a b t in omega arith) ∙ sym t)

module _ (cone : ℕ → ℕ) where
  -- No net of a list has more gates in its cone than a number, nor than one before it.

  abbrev AtMost : ℕ → List ℕ → Type 0
  AtMost most [] = Unit
  AtMost most (x ∷ rest) = (cone x ≤ most) × AtMost most rest

  abbrev Falling : List ℕ → Type 0
  Falling [] = Unit
  Falling (x ∷ rest) = AtMost (cone x) rest × Falling rest

  abbrev put : ℕ → List ℕ → List ℕ
  put = put_in (wider cone)

  more_most : (xs : List ℕ) (most more : ℕ) → most ≤ more → AtMost most xs → AtMost more xs
  more_most [] most more h a = tt
  more_most (x ∷ rest) most more h a = (le_trans a.0 h, more_most rest most more h a.1)

  put_most : (net : ℕ) (xs : List ℕ) (most : ℕ) → cone net ≤ most → AtMost most xs → AtMost most (put net xs)
  unfolding put_in wider
  put_most net [] most h a = (h, tt)
  put_most net (x ∷ rest) most h a =
      cases (ltb (cone x) (cone net)) (λ t. rw t (h, a)) (λ t. rw t (a.0, put_most net rest most h a.1))

  put_falling_lem : (net : ℕ) (xs : List ℕ) → Falling xs → Falling (put net xs)
  unfolding put_in wider
  put_falling_lem net [] f = (tt, tt)
  put_falling_lem net (x ∷ rest) f =
      cases (ltb (cone x) (cone net))
      (λ t. let l = ltb-true (cone x) (cone net) t in
      rw t ((omega arith, more_most rest (cone x) (cone net) (omega arith) f.0), f))
      (λ t. rw t (put_most net rest (cone x) (ltb-false (cone x) (cone net) t) f.0, put_falling_lem net rest f.1))

  order_falling : (n : ℕ) → Falling (in_order (wider cone) n)
  unfolding in_order
  order_falling zero = tt
  order_falling (suc n) = put_falling_lem n (in_order (wider cone) n) (order_falling n)

  module _ (case : Case) where
    abbrev open_at : ℕ → Bool
    open_at net = undecided (get_or case net empty)

    abbrev first : List ℕ → ℕ
    first xs = first_undecided xs case

    -- Whether a list names an undecided input.
    unfoldable some : List ℕ → Bool
    some [] = false
    some (x ∷ rest) = cond (open_at x) true (some rest)

    some_open : (xs : List ℕ) → some xs ≡ true → open_at (first xs) ≡ true
    unfolding some first_undecided
    some_open [] s = absurd (false≢true s)
    some_open (x ∷ rest) s = cases (open_at x) (λ t. rw t t) (λ t. rw t (some_open rest (rw t at s)))

    first_most : (xs : List ℕ) (most : ℕ) → some xs ≡ true → AtMost most xs → cone (first xs) ≤ most
    unfolding some first_undecided
    first_most [] most s a = absurd (false≢true s)
    first_most (x ∷ rest) most s a = cases (open_at x) (λ t. rw t a.0) (λ t. rw t (first_most rest most (rw t at s) a.1))

    none_first : (xs : List ℕ) → some xs ≡ false → first xs ≡ 0
    unfolding some first_undecided
    none_first [] s = refl
    none_first (x ∷ rest) s = cases (open_at x) (λ t. absurd (false≢true (sym s ∙ rw t refl))) (λ t. rw t (none_first rest (rw t at s)))

    none_open : (xs : List ℕ) (net : ℕ) → some xs ≡ false → 1 ≤ times_named xs net → open_at net ≡ false
    unfolding some times_named
    none_open [] net s named = absurd (omega arith)
    none_open (x ∷ rest) net s named =
        cases (open_at x)
        (λ t. absurd (false≢true (sym s ∙ rw t refl)))
        (λ t. cases (eqb x net)
        (λ e. ap open_at (sym (eqb-true x net e)) ∙ t)
        (λ e. none_open rest net (rw t at s) (let n = rw e at named in omega arith)))

    -- One net more: a decided one is passed over, an undecided one is chosen where it is the only one or has the larger cone.

    put_decided : (net : ℕ) (xs : List ℕ) → open_at net ≡ false → first (put net xs) ≡ first xs
    unfolding put_in first_undecided
    put_decided net [] d = rw d refl
    put_decided net (x ∷ rest) d =
        cases (wider cone net x) (λ t. rw (t, d) refl)
        (λ t. rw t (ap (cond (open_at x) x) (put_decided net rest d)))

    put_only : (net : ℕ) (xs : List ℕ) → open_at net ≡ true → some xs ≡ false → first (put net xs) ≡ net
    unfolding put_in first_undecided some
    put_only net [] u s = rw u refl
    put_only net (x ∷ rest) u s =
        cases (wider cone net x) (λ t. rw (t, u) refl)
        (λ t. cases (open_at x) (λ o. absurd (false≢true (sym s ∙ rw o refl))) (λ o. rw (t, o) (put_only net rest u (rw o at s))))

    put_open : (net : ℕ) (xs : List ℕ) → open_at net ≡ true → some xs ≡ true → Falling xs
        → first (put net xs) ≡ cond (ltb (cone (first xs)) (cone net)) net (first xs)
    unfolding put_in first_undecided some wider
    put_open net [] u s f = absurd (false≢true s)
    put_open net (x ∷ rest) u s f =
        cases (ltb (cone x) (cone net))
        (λ t. let below = first_most (x ∷ rest) (cone x) s (le_refl (cone x), f.0) in
        let less : ltb (cone (first (x ∷ rest))) (cone net) ≡ true = lt-ltb (cone (first (x ∷ rest))) (cone net) (let l = ltb-true (cone x) (cone net) t in omega arith) in
        let taken : first (put net (x ∷ rest)) ≡ net = rw (t, u) refl in
        taken ∙ sym (ap (λ b. cond b net (first (x ∷ rest))) less))
        (λ t. cases (open_at x) (λ o. rw (t, o) (rw t refl)) (λ o. rw (t, o) (put_open net rest u (rw o at s) f.1)))

    abbrev rank_at : ℕ → ℕ
    rank_at net = rank_of (get_or case net empty) (cone net)

    open_rank : (net : ℕ) → open_at net ≡ true → rank_at net ≡ suc (cone net)
    unfolding rank_of
    open_rank net u = rw u refl

    closed_rank : (net : ℕ) → open_at net ≡ false → rank_at net ≡ 0
    unfolding rank_of
    closed_rank net u = rw u refl

    -- Which of the net that is put in and the one that was chosen before has the higher rank.

    abbrev sorted : ℕ → List ℕ
    sorted n = in_order (wider cone) n

    one_rank : (b : Bool) → first (put 0 []) ≡ cond b 0 0
    unfolding put_in first_undecided
    one_rank b = cases (open_at 0) (λ u. rw u (cases b (λ t. rw t refl) (λ t. rw t refl))) (λ u. rw u (cases b (λ t. rw t refl) (λ t. rw t refl)))

    ranked : (n : ℕ) → 1 ≤ n → first (put n (sorted n)) ≡ cond (ltb (rank_at (first (sorted n))) (rank_at n)) n (first (sorted n))
    ranked n h =
        let xs = sorted n in
        let by : (b : Bool) → ltb (rank_at (first xs)) (rank_at n) ≡ b → cond b n (first xs) ≡ cond (ltb (rank_at (first xs)) (rank_at n)) n (first xs) =
        λ b e. ap (λ b. cond b n (first xs)) (sym e) in
        cases (open_at n)
        (λ u. cases (some xs)
        (λ s. put_open n xs u s (order_falling n)
        ∙ by (ltb (cone (first xs)) (cone n)) (rw (open_rank (first xs) (some_open xs s), open_rank n u) (suc_ltb (cone (first xs)) (cone n))))
        (λ s. let none : rank_at (first xs) ≡ 0 =
        ap rank_at (none_first xs s) ∙ closed_rank 0 (none_open xs 0 s (let o = once_named (wider cone) n 0 h in omega arith)) in
        put_only n xs u s ∙ by true (rw (none, open_rank n u) (lt-ltb 0 (suc (cone n)) (omega arith)))))
        (λ u. put_decided n xs u ∙ by false (rw (closed_rank n u) (le-ltb (rank_at (first xs)) 0 (omega arith))))

    -- Document 01's choice: the undecided input with most gates in its cone, lowest net on a tie.
    pub widest : (n : ℕ) → first (sorted n) ≡ argmax n rank_at
    unfolding in_order argmax first_undecided
    widest zero = refl
    widest (suc zero) = one_rank (ltb (rank_at 0) (rank_at 0))
    widest (suc (suc n)) = rw (← widest (suc n)) (ranked (suc n) (omega arith))
