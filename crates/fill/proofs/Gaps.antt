-- The shortest gap between runs is a gap between two neighbours, and closing it makes one run of them.
-- Assumes nothing.
use Prim.Native.Nat.{ℕ, suc, ◌+◌, ◌-◌, ◌≤◌, ◌<◌}
use mathlib.Core.Bool.{Bool, true, false, cond, ◌&&◌, ◌||◌, or_assoc, or-false}
use mathlib.Core.List.{List, [], ◌∷◌}
use mathlib.Core.Path.{◌≡◌, refl, sym, subst, ap, ◌∙◌}
use native.Mathlib.Omega.{arith}
use lib.Dec.{leb, ltb}
use lib.ListN.{length}
use borrow.Author.Tests.{leb-true, leb-false, ltb-true, le-leb, eq-eqb, ne_eqb, lt-ltb}
use borrow.Table.Steps.{cases}
use Rattle.laws.proofs.Tests.{and_both, and_first_fails, and_second_fails, or_first, or_second}
use Rattle.runs.specs.Runs.{Run, run, inside}
use Rattle.runs.proofs.Runs.{Apart, none, next, inside_first, inside_rest}
use Rattle.fill.specs.Filling.{shortest_gap}
use Rattle.fill.specs.Gaps.{Gap, gap, gaps_after, gaps, shorter, shortest, close, close_first, close_shortest}

-- A gap between two neighbours of the first runs, which are one run of the second.
pub data Closed : Gap → List Run → List Run → Type 0 where
  here : {start size first last first' last' : ℕ} {rest : List Run} → start ≡ suc last → size ≡ first' - suc last
      → Closed (gap start size) (run first last ∷ run first' last' ∷ rest) (run first last' ∷ rest)
  there : {g : Gap} {r : Run} {rest rest' : List Run} → Closed g rest rest' → Closed g (r ∷ rest) (r ∷ rest')

pub closed_length : {g : Gap} {rs rs' : List Run} → Closed g rs rs' → length rs ≡ suc (length rs')
closed_length (here e f) = refl
closed_length (there c) = ap suc (closed_length c)

pub closed_apart : {t end : ℕ} {g : Gap} {rs rs' : List Run} → Apart t end rs → Closed g rs rs' → Apart t end rs'
closed_apart none h = elim h [ ]
closed_apart (next {first = first} low ordered high (next {last = last} low' ordered' high' more)) (here e f) =
    let q : first ≤ last = omega arith in next low q high' more
closed_apart (next low ordered high more) (there c) = next low ordered high (closed_apart more c)

gap_after : {t end start size : ℕ} {rs rs' : List Run} → Apart t end rs → Closed (gap start size) rs rs' → t < start
gap_after none h = elim h [ ]
gap_after (next low ordered high more) (here e f) = omega arith
gap_after (next low ordered high more) (there c) = omega (arith, gap_after more c)

pub gap_before : {t end start size : ℕ} {rs rs' : List Run} → Apart t end rs → Closed (gap start size) rs rs' → start + size < end
gap_before none h = elim h [ ]
gap_before (next low ordered high (next low' ordered' high' more)) (here e f) = omega arith
gap_before (next low ordered high more) (there c) = gap_before more c

-- A tick lies inside a run once a gap is closed, where it did before or it is a tick of the gap.

-- Whether a tick is one of a gap's.
unfoldable pub in_gap : ℕ → ℕ → ℕ → Bool
in_gap start size t = leb start t && ltb t (start + size)

in_gap_lem : (start size u : ℕ) → start ≤ u → u < start + size → in_gap start size u ≡ true
unfolding in_gap
in_gap_lem start size u low high = and_both (le-leb start u low) (lt-ltb u (start + size) high)

out_of_gap : (start size u : ℕ) → (start ≤ u → u < start + size → ⊥) → in_gap start size u ≡ false
unfolding in_gap
out_of_gap start size u n =
    cases (leb start u)
    (λ low. cases (ltb u (start + size))
    (λ high. absurd (n (leb-true start u low) (ltb-true u (start + size) high)))
    (λ high. and_second_fails (leb start u) high))
    (λ low. and_first_fails (ltb u (start + size)) low)

module _ (start size u first last first' last' : ℕ) (rest : List Run) (begins : start ≡ suc last) (long : size ≡ first' - suc last) where
  pair_inside : first ≤ last → suc (suc last) ≤ first' → first ≤ u → u ≤ last'
      → (inside u (run first last ∷ run first' last' ∷ rest) || in_gap start size u) ≡ true
  pair_inside ordered between low high =
      cases (leb u last)
      (λ e. or_first (in_gap start size u) (inside_first u first last (run first' last' ∷ rest) low (leb-true u last e)))
      (λ e. let past = leb-false u last e in
      cases (leb first' u)
      (λ f. or_first (in_gap start size u)
      (inside_rest u first last (run first' last' ∷ rest) (λ p q. omega arith) ∙ inside_first u first' last' rest (leb-true first' u f) high))
      (λ f. let until = leb-false first' u f in
      or_second (inside u (run first last ∷ run first' last' ∷ rest)) (in_gap_lem start size u (omega arith) (omega arith))))

  pair_outside : first ≤ last → suc (suc last) ≤ first' → first' ≤ last' → (first ≤ u → u ≤ last' → ⊥)
      → inside u rest ≡ (inside u (run first last ∷ run first' last' ∷ rest) || in_gap start size u)
  pair_outside ordered between ordered' n =
      sym (ap (λ b. inside u (run first last ∷ run first' last' ∷ rest) || b) (out_of_gap start size u (λ p q. n (omega arith) (omega arith)))
      ∙ or-false (inside u (run first last ∷ run first' last' ∷ rest))
      ∙ inside_rest u first last (run first' last' ∷ rest) (λ p q. n p (omega arith))
      ∙ inside_rest u first' last' rest (λ p q. n (omega arith) q))

  pair_closed : first ≤ last → suc (suc last) ≤ first' → first' ≤ last'
      → inside u (run first last' ∷ rest) ≡ (inside u (run first last ∷ run first' last' ∷ rest) || in_gap start size u)
  pair_closed ordered between ordered' =
      cases (leb first u)
      (λ e. let low = leb-true first u e in
      cases (leb u last')
      (λ f. let high = leb-true u last' f in inside_first u first last' rest low high ∙ sym (pair_inside ordered between low high))
      (λ f. let high = leb-false u last' f in outside (λ p q. omega arith)))
      (λ e. let low = leb-false first u e in outside (λ p q. omega arith))
    where
      outside : (first ≤ u → u ≤ last' → ⊥)
          → inside u (run first last' ∷ rest) ≡ (inside u (run first last ∷ run first' last' ∷ rest) || in_gap start size u)
      outside n = inside_rest u first last' rest n ∙ pair_outside ordered between ordered' n

pub inside_closed : {t end start size : ℕ} {rs rs' : List Run} (u : ℕ) → Apart t end rs → Closed (gap start size) rs rs'
    → inside u rs' ≡ (inside u rs || in_gap start size u)
unfolding inside
inside_closed u none h = elim h [ ]
inside_closed u (next low ordered high (next {rest = rest} between ordered' high' more)) (here e f) =
    pair_closed _ _ u _ _ _ _ rest e f ordered between ordered'
inside_closed {start = start} {size = size} u (next {first = first} {last = last} low ordered high more) (there {rest = rest} c) =
    ap (λ b. (leb first u && leb u last) || b) (inside_closed u more c)
    ∙ sym (or_assoc (leb first u && leb u last) (inside u rest) (in_gap start size u))

-- Closing a gap between two neighbours.

close_past : (start size first last : ℕ) (rest : List Run) → (suc last ≡ start → ⊥)
    → close (gap start size) (run first last ∷ rest) ≡ run first last ∷ close (gap start size) rest
unfolding close
close_past start size first last [] n = refl
close_past start size first last (run first' last' ∷ rest) n = rw (ne_eqb (suc last) start n, close) refl

close_is : {t end start size : ℕ} {rs rs' : List Run} → Apart t end rs → Closed (gap start size) rs rs' → close (gap start size) rs ≡ rs'
unfolding close
close_is none h = elim h [ ]
close_is {start = start} (next {last = last} low ordered high more) (here e f) = rw (eq-eqb (suc last) start (sym e), close) refl
close_is {start = start} {size = size} (next {first = first} {last = last} {rest = rest} low ordered high more) (there c) =
    close_past start size first last rest (λ e. omega (arith, gap_after more c)) ∙ ap (λ rs. run first last ∷ rs) (close_is more c)

-- The shortest gap is one of them.

data All (P : Gap → Type 0) : List Gap → Type 0 where
  nil : All P []
  cons : {g : Gap} {rest : List Gap} → P g → All P rest → All P (g ∷ rest)

shorter_is : (P : Gap → Type 0) (g h : Gap) → P g → P h → P (shorter g h)
unfolding shorter
shorter_is P (gap start size) (gap start' size') p q = either (ltb size' size)
  where
    either : (b : Bool) → P (cond b (gap start' size') (gap start size))
    either true = q
    either false = p

shortest_is : (P : Gap → Type 0) (g : Gap) (rest : List Gap) → P g → All P rest → P (shortest g rest)
unfolding shortest
shortest_is P g [] p nil = p
shortest_is P g (h ∷ rest) p (cons q all) = shortest_is P (shorter g h) rest (shorter_is P g h p q) all

shortest_of : (P : Gap → Type 0) (g : Gap) (rest : List Gap) → All P (g ∷ rest) → P (shortest g rest)
shortest_of P g rest (cons p all) = shortest_is P g rest p all

-- A gap that lies between two neighbours.
record Between (rs : List Run) (g : Gap) : Type 0 where
  closed : List Run
  closing : Closed g rs closed

all_between : (P : Gap → Type 0) (first last : ℕ) (rest : List Run) → ((g : Gap) → Between (run first last ∷ rest) g → P g)
    → All P (gaps_after (suc last) rest)
unfolding gaps_after
all_between P first last [] f = nil
all_between P first last (run first' last' ∷ rest) f =
    cons (f (gap (suc last) (first' - suc last)) (record { closed = run first last' ∷ rest; closing = here refl refl }))
    (all_between P first' last' rest (λ g b. f g (record { closed = run first last ∷ b.closed; closing = there b.closing })))

close_between : {t end : ℕ} {rs : List Run} (g : Gap) → Apart t end rs → Between rs g → Closed g rs (close g rs)
close_between {rs = rs} (gap start size) apart b =
    subst (λ rs'. Closed (gap start size) rs rs') (sym (close_is apart b.closing)) b.closing

shortest_first : (past first last : ℕ) (rest : List Run) → first - past < 256
    → shortest (gap 0 256) (gaps_after past (run first last ∷ rest)) ≡ shortest (gap past (first - past)) (gaps_after (suc last) rest)
unfolding shortest shorter gaps_after
shortest_first past first last rest h = rw (lt-ltb (first - past) 256 h, shortest) refl

-- What closes is the shortest gap.
pub closes : {rs : List Run} → Apart 0 256 rs → 2 ≤ length rs → Closed (shortest_gap rs) rs (close_shortest rs)
unfolding close_shortest close_first gaps gaps_after shortest_gap
closes none two = absurd (omega arith)
closes (next low ordered high none) two = absurd (omega arith)
closes {rs} (next {first = first} {last = last} low ordered high (next {first = first'} {last = last'} {rest = rest} between ordered' high' more)) two =
    let g = gap (suc last) (first' - suc last) in
    let others = gaps_after (suc last') rest in
    let all = all_between (Between rs) first last (run first' last' ∷ rest) (λ h b. b) in
    rw (shortest_first (suc last) first' last' rest (omega arith))
    (close_between (shortest g others) (next low ordered high (next between ordered' high' more)) (shortest_of (Between rs) g others all))

-- One run has no gap.
pub one_stays : (rs : List Run) → length rs < 2 → close_shortest rs ≡ rs
unfolding close_shortest close_first gaps gaps_after
one_stays [] few = refl
one_stays (run first last ∷ []) few = refl
one_stays (run first last ∷ r ∷ rest) few = absurd (omega arith)
