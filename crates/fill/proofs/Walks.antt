-- The runs of a row, walked from one to the next, give its shortest gap.
-- Assumes nothing.
use Prim.Native.Nat.{ℕ, suc, ◌-◌, ◌≤◌, ◌<◌}
use mathlib.Core.Bool.{true, false}
use mathlib.Core.List.{List, ◌∷◌}
use mathlib.Core.Logic.{⊎_elim}
use mathlib.Core.Path.{◌≡◌, refl, ap, sym, ◌∙◌}
use native.Mathlib.Nat.{le_refl, eq-or-lt_of_le}
use native.Mathlib.Omega.{arith}
use lib.ListN.{length}
use borrow.Author.Tests.{lt-ltb, le-ltb}
use Rattle.bits.specs.Bits.{row_bit}
use Rattle.runs.specs.Rows.{runs_in, NextAt}
use Rattle.runs.specs.Runs.{run}
use Rattle.runs.proofs.Walk.{runs_after, all_runs, none_left, passed, run_here, run_long, next_run}
use Rattle.fill.specs.Filling.{shortest_gap}
use Rattle.fill.specs.Gaps.{Gap, gap, gaps_after, gaps, shorter, shortest}

-- The shortest gap so far, where `end` is the tick after the latest run and `next` the first tick of the run that follows.
pub record Walked (row : List ℕ) (g : Gap) (end next : ℕ) : Type 0 where
  pub found : NextAt true row end next
  pub rest : shortest g (gaps_after end (runs_after row next)) ≡ shortest_gap (runs_in row)

-- The first of several gaps is the shortest so far.
first_shortest : (start size : ℕ) (more : List Gap) → size < 256
    → shortest (gap start size) (gap start size ∷ more) ≡ shortest (gap 0 256) (gap start size ∷ more)
unfolding shortest shorter
first_shortest start size more low = rw (lt-ltb size 256 low, le-ltb size size (le_refl size)) refl

module _ (row : List ℕ) where
  -- A run, and the runs from the first tick of the next one on.
  one_run : (first end next : ℕ) → first < 256 → row_bit row first ≡ true → NextAt false row first end → NextAt true row end next
      → runs_after row first ≡ run first (end - 1) ∷ runs_after row next
  one_run first end next early held ended found =
      next_run row first end early held ended ∙ ap (λ rs. run first (end - 1) ∷ rs) (passed row end next found)

  module _ (first end next : ℕ) (begun : NextAt true row 0 first) (ended : NextAt false row first end) (found : NextAt true row end next) where
    all : runs_in row ≡ runs_after row first
    all = sym (all_runs row) ∙ passed row 0 first begun

    first_run : first < 256 → runs_in row ≡ run first (end - 1) ∷ runs_after row next
    first_run early = all ∙ one_run first end next early (begun.found early) ended found

    -- The walk over any row begins with a gap that is longer than all of its own.
    pub walk_first : Walked row (gap 0 256) end next
    unfolding shortest_gap gaps gaps_after
    walk_first = record { found = found; rest = ⊎_elim none some (eq-or-lt_of_le begun.high) }
      where
        none : first ≡ 256 → shortest (gap 0 256) (gaps_after end (runs_after row next)) ≡ shortest (gap 0 256) (gaps (runs_in row))
        none at_end =
            let last : next ≡ 256 = omega (arith, ended.low, found.low, found.high) in
            rw (last, all, at_end, none_left row) refl

        some : first < 256 → shortest (gap 0 256) (gaps_after end (runs_after row next)) ≡ shortest (gap 0 256) (gaps (runs_in row))
        some early =
            let back : suc (end - 1) ≡ end = omega (arith, run_long row first end early (begun.found early) ended) in
            rw (first_run early, back) refl

    -- The first gap of a row that has several runs is the shortest so far: the runs that are left begin where it ends.
    module _ (two : 2 ≤ length (runs_in row)) where
      first_early : first < 256
      first_early = ⊎_elim (λ (e : first ≡ 256). absurd (few e)) (λ l. l) (eq-or-lt_of_le begun.high)
        where
          few : first ≡ 256 → ⊥
          few e = let none = ap length (all ∙ ap (runs_after row) e ∙ none_left row) in omega arith

      next_early : next < 256
      next_early = ⊎_elim (λ (e : next ≡ 256). absurd (few e)) (λ l. l) (eq-or-lt_of_le found.high)
        where
          few : next ≡ 256 → ⊥
          few e =
              let one = ap length (first_run first_early ∙ ap (λ t. run first (end - 1) ∷ runs_after row t) e ∙ ap (λ rs. run first (end - 1) ∷ rs) (none_left row)) in
              omega arith

      begins : shortest (gap end (next - end)) (gaps_after end (runs_after row next)) ≡ shortest (gap 0 256) (gaps_after end (runs_after row next))
      unfolding gaps_after
      begins =
          let here = run_here row next next_early (found.found next_early) in
          rw here.2 (first_shortest end (next - end) _ (omega (arith, next_early)))

      pub walk_first_gap : Walked row (gap end (next - end)) end next
      walk_first_gap = record { found = found; rest = begins ∙ walk_first.rest }

  module _ (g : Gap) (end next : ℕ) (so_far : Walked row g end next) where
    -- One run more.
    module _ (early : next < 256) (end' next' : ℕ) (ended : NextAt false row next end') (found : NextAt true row end' next') where
      pub walk_on : next < next'
      walk_on = omega (arith, run_long row next end' early (so_far.found.found early) ended, found.low)

      pub walk_more : (g' : Gap) → g' ≡ shorter g (gap end (next - end)) → Walked row g' end' next'
      unfolding shortest gaps_after
      walk_more g' shorter_is =
          let held = so_far.found.found early in
          let back : suc (end' - 1) ≡ end' = omega (arith, run_long row next end' early held ended) in
          record {
            found = found;
            rest = rw shorter_is
                (ap (λ e. shortest (shorter g (gap end (next - end))) (gaps_after e (runs_after row next'))) (sym back)
                ∙ ap (λ rs. shortest g (gaps_after end rs)) (sym (one_run next end' next' early held ended found))
                ∙ so_far.rest);
          }

    pub walk_done : 256 ≤ next → g ≡ shortest_gap (runs_in row)
    unfolding shortest gaps_after
    walk_done late =
        let last : next ≡ 256 = omega (arith, so_far.found.high) in
        sym (ap (λ rs. shortest g (gaps_after end rs)) (ap (runs_after row) last ∙ none_left row)) ∙ so_far.rest
