-- `numbers::greatest::first_greatest` meets its contract.
-- Assumes nothing.
use Rattle.std.proofs.Common.{ℕ, ◌<◌}
use Rattle.laws.proofs.Greatest.{GreatestSoFar}
use Rattle.numbers.specs.Greatest.{Computes}
use Rattle.numbers.proofs.greatest.first_greatest.Given as goal

abbrev pub invariant-loop-i : goal.invariant-loop-i
invariant-loop-i g l = (l.best < l.i) × ((f : ℕ → ℕ) → Computes (λ i x. goal.F-post g l.value i x) l.n f → GreatestSoFar f l.i l.best l.most)
