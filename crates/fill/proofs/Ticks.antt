-- The ticks that hold an excitation once the gaps are filled: they only become more, none lies outside the first and last run, and
-- their runs are the merged ones.
-- Assumes nothing.
use Prim.Native.Nat.{ℕ, ◌≤◌, ◌<◌}
use mathlib.Core.Bool.{Bool, true, false}
use mathlib.Core.List.{List}
use mathlib.Core.Path.{◌≡◌, sym, subst, ap, ◌∙◌}
use native.Mathlib.Nat.{zero-add}
use native.Mathlib.Omega.{arith}
use lib.Dec.{ltb}
use lib.ListN.{length, get_or, get_or-eq_default}
use lib.Seq.{ext_get_or}
use borrow.Author.Tests.{ltb-true, ltb-false}
use borrow.Table.Steps.{cases}
use Rattle.runs.specs.Runs.{runs, inside}
use Rattle.runs.proofs.Runs.{Apart, apart_few, runs_apart, inside_before, inside_after, none_before, none_after, inside_runs, length_inside, inside_at, runs_are}
use Rattle.fill.specs.Fill.{fill_ticks}
use Rattle.fill.specs.Gaps.{merged}
use Rattle.fill.proofs.Merged.{merged_adds, merged_apart, merged_done, merged_few}

pub length_fill : (hops : ℕ) (held : List Bool) → length (fill_ticks hops held) ≡ length held
unfolding fill_ticks
length_fill hops held = length_inside (merged hops (runs held)) 0 (length held)

-- The runs of 256 ticks lie apart among them.
pub all_apart : (held : List Bool) → length held ≡ 256 → Apart 0 256 (runs held)
all_apart held long = subst (λ end. Apart 0 end (runs held)) (zero-add (length held) ∙ long) (runs_apart 0 held)

module _ (hops : ℕ) (held : List Bool) (long : length held ≡ 256) where
  apart : Apart 0 256 (runs held)
  apart = all_apart held long

  fill_at : (t : ℕ) → get_or (fill_ticks hops held) t false ≡ inside t (merged hops (runs held))
  unfolding fill_ticks
  fill_at t = rw long (inside_at 256 t (merged_apart hops 0 256 apart apart))

  pub fill_adds : (t : ℕ) → get_or held t false ≡ true → get_or (fill_ticks hops held) t false ≡ true
  fill_adds t e = fill_at t ∙ merged_adds hops t apart (inside_runs t held ∙ e)

  pub fill_not_before : (first : ℕ) → ((t : ℕ) → t < first → get_or held t false ≡ false) → (t : ℕ) → t < first
      → get_or (fill_ticks hops held) t false ≡ false
  fill_not_before first outside t h =
      fill_at t
      ∙ inside_before t (merged_apart hops first 256 apart (none_before first (λ u k. inside_runs u held ∙ outside u k) apart)) h

  pub fill_not_after : (end : ℕ) → ((t : ℕ) → end ≤ t → get_or held t false ≡ false) → (t : ℕ) → end ≤ t
      → get_or (fill_ticks hops held) t false ≡ false
  fill_not_after end outside t h =
      fill_at t ∙ inside_after t (merged_apart hops 0 end apart (none_after end (λ u k. inside_runs u held ∙ outside u k) apart)) h

  -- Ticks that are the same from tick s on stay as they are from there on.
  pub fill_kept : (s : ℕ) → ((t : ℕ) → s ≤ t → t < 256 → get_or held t false ≡ get_or held s false) → (t : ℕ) → s ≤ t → t < 256
      → get_or (fill_ticks hops held) t false ≡ get_or held t false
  fill_kept s same t after within =
      cases (get_or held s false)
      (λ on. let here = same t after within ∙ on in fill_adds t here ∙ sym here)
      (λ off. fill_not_after s (λ u k. none u k off) t after ∙ sym (none t after off))
    where
      none : (u : ℕ) → s ≤ u → get_or held s false ≡ false → get_or held u false ≡ false
      none u k off =
          cases (ltb u 256)
          (λ low. same u k (ltb-true u 256 low) ∙ off)
          (λ high. get_or-eq_default held false (omega (arith, ltb-false u 256 high)))

  -- Ticks whose runs are the merged ones are the filled ticks.
  pub fill_is : (after : List Bool) → length after ≡ 256 → runs after ≡ merged hops (runs held) → after ≡ fill_ticks hops held
  fill_is after long' e =
      ext_get_or false after (fill_ticks hops held) (long' ∙ sym (length_fill hops held ∙ long))
      (λ t h. sym (inside_runs t after) ∙ ap (inside t) e ∙ sym (fill_at t))

  fill_runs : runs (fill_ticks hops held) ≡ merged hops (runs held)
  fill_runs =
      runs_are (fill_ticks hops held)
      (subst (λ end. Apart 0 end (merged hops (runs held))) (sym (length_fill hops held ∙ long)) (merged_apart hops 0 256 apart apart))
      fill_at

  pub fill_few : 1 ≤ hops → length (runs (fill_ticks hops held)) ≤ hops
  fill_few some = rw fill_runs (merged_few hops (runs held) some apart)

  -- Runs that do not exceed the hop limit stay.
  pub fill_none : length (runs held) ≤ hops → fill_ticks hops held ≡ held
  fill_none few = sym (fill_is held long (sym (merged_done hops (runs held) few)))

-- 256 ticks have at most 128 runs.
pub few_runs : (held : List Bool) → length held ≡ 256 → length (runs held) ≤ 128
few_runs held long = omega (arith, apart_few (all_apart held long))
