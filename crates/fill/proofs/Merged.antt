-- What merging runs keeps and what it comes to: the ticks inside them stay inside, and the runs are at most the hop limit.
-- Assumes nothing.
use Prim.Native.Nat.{ℕ, zero, suc, ◌+◌, ◌≤◌, ◌<◌}
use mathlib.Core.Bool.{true}
use mathlib.Core.List.{List}
use mathlib.Core.Path.{◌≡◌, refl, sym, subst, ap, ◌∙◌}
use native.Mathlib.Omega.{arith}
use lib.Dec.{leb}
use lib.ListN.{length}
use borrow.Author.Tests.{leb-true, leb-false, le-leb, lt-leb}
use borrow.Table.Steps.{cases}
use Rattle.laws.proofs.Tests.{or_first}
use Rattle.runs.specs.Runs.{Run, inside}
use Rattle.runs.proofs.Runs.{Apart}
use Rattle.fill.specs.Filling.{shortest_gap}
use Rattle.fill.specs.Gaps.{Gap, gap, close_shortest, close_while, merged}
use Rattle.fill.proofs.Gaps.{in_gap, Closed, closed_length, closed_apart, inside_closed, closes, one_stays}

while_done : (n hops : ℕ) (rs : List Run) → length rs ≤ hops → close_while n hops rs ≡ rs
unfolding close_while
while_done zero hops rs few = refl
while_done (suc n) hops rs few = rw (le-leb (length rs) hops few, close_while) refl

while_more : (n hops : ℕ) (rs : List Run) → hops < length rs → close_while (suc n) hops rs ≡ close_while n hops (close_shortest rs)
unfolding close_while
while_more n hops rs many = rw (lt-leb (length rs) hops many, close_while) refl

-- The runs are at most the hop limit, or exceed it.
few_or_many : {P : Type 0} (hops : ℕ) (rs : List Run) → (length rs ≤ hops → P) → (hops < length rs → P) → P
few_or_many hops rs f g = cases (leb (length rs) hops) (λ e. f (leb-true (length rs) hops e)) (λ e. g (leb-false (length rs) hops e))

-- What closing a gap keeps, merging keeps.
module _ (P : List Run → Type 0) (kept : (g : Gap) (rs rs' : List Run) → Apart 0 256 rs → Closed g rs rs' → P rs → P rs') where
  while_keeps : (n hops : ℕ) (rs : List Run) → Apart 0 256 rs → P rs → P (close_while n hops rs)
  unfolding close_while
  while_keeps zero hops rs apart p = p
  while_keeps (suc n) hops rs apart p =
      few_or_many hops rs
      (λ few. subst P (sym (while_done (suc n) hops rs few)) p)
      (λ many. subst P (sym (while_more n hops rs many))
      (few_or_many 1 rs
      (λ one. subst (λ rs'. P (close_while n hops rs')) (sym (one_stays rs (omega arith))) (while_keeps n hops rs apart p))
      (λ two. let c = closes apart two in
      while_keeps n hops (close_shortest rs) (closed_apart apart c) (kept (shortest_gap rs) rs (close_shortest rs) apart c p))))

  merged_keeps : (hops : ℕ) {rs : List Run} → Apart 0 256 rs → P rs → P (merged hops rs)
  unfolding merged
  merged_keeps hops {rs} apart p = while_keeps (length rs) hops rs apart p

closed_adds : (t : ℕ) (g : Gap) (rs rs' : List Run) → Apart 0 256 rs → Closed g rs rs' → inside t rs ≡ true → inside t rs' ≡ true
closed_adds t (gap start size) rs rs' apart c e = inside_closed t apart c ∙ or_first (in_gap start size t) e

pub merged_adds : (hops t : ℕ) {rs : List Run} → Apart 0 256 rs → inside t rs ≡ true → inside t (merged hops rs) ≡ true
merged_adds hops t = merged_keeps (λ rs. inside t rs ≡ true) (closed_adds t) hops

pub merged_apart : (hops first end : ℕ) {rs : List Run} → Apart 0 256 rs → Apart first end rs → Apart first end (merged hops rs)
merged_apart hops first end = merged_keeps (λ rs. Apart first end rs) (λ g rs rs' apart c p. closed_apart p c) hops

-- At most the hop limit.

pub merged_done : (hops : ℕ) (rs : List Run) → length rs ≤ hops → merged hops rs ≡ rs
unfolding merged
merged_done hops rs few = while_done (length rs) hops rs few

while_few : (n hops : ℕ) (rs : List Run) → 1 ≤ hops → Apart 0 256 rs → length rs ≤ n + hops → length (close_while n hops rs) ≤ hops
unfolding close_while
while_few zero hops rs some apart h = omega arith
while_few (suc n) hops rs some apart h =
    few_or_many hops rs
    (λ few. subst (λ rs'. length rs' ≤ hops) (sym (while_done (suc n) hops rs few)) few)
    (λ many. let c = closes apart (omega arith) in
    subst (λ rs'. length rs' ≤ hops) (sym (while_more n hops rs many))
    (while_few n hops (close_shortest rs) some (closed_apart apart c) (omega (arith, closed_length c))))

pub merged_few : (hops : ℕ) (rs : List Run) → 1 ≤ hops → Apart 0 256 rs → length (merged hops rs) ≤ hops
unfolding merged
merged_few hops rs some apart = while_few (length rs) hops rs some apart (omega arith)

-- With more runs than the hop limit, one gap closed first comes to the same.
pub merged_step : (hops : ℕ) (rs : List Run) → 1 ≤ hops → Apart 0 256 rs → hops < length rs
    → merged hops rs ≡ merged hops (close_shortest rs)
unfolding merged
merged_step hops rs some apart many =
    ap (λ n. close_while n hops rs) (closed_length (closes apart (omega arith))) ∙ while_more (length (close_shortest rs)) hops rs many
