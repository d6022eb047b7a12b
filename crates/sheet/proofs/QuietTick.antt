-- Laws of the quiet tick, and of the scan by which the code finds it.
-- Assumes nothing.
use Rattle.std.proofs.Common.{◌≡◌, ℕ, ◌+◌, ◌<◌, ◌≤◌, true, false, not, eqb, List, length, sym, refl, ◌∙◌, arith, eqb-true}
use mathlib.Core.Bool.{false≢true, or-false, false-or, or_assoc}
use Rattle.std.specs.List.{list_any, range_with_len}
use borrow.Author.Tests.{not-false}
use borrow.Table.Steps.{cases}
use Rattle.laws.specs.Below.{any_below, last_below}
use Rattle.laws.proofs.Below.{last_next, any_fails, any_none, last_after, last_none, last_beyond, last_implied}
use Rattle.sheet.specs.Quiet.{Empty, LastFlow, QuietFrom}
use Rattle.sheet.specs.Sheet.{Sheet, sheet_in, flows_at, quiet_tick}

-- Whether current flows at a tick, row by row from row 0 on.

pub flows_ranged : (s : Sheet) (t : ℕ) → list_any (λ c. not (eqb (s c t) 0)) (range_with_len 0 16) ≡ flows_at s t
unfolding flows_at any_below
flows_ranged s t = simp (or_assoc, or-false, false-or) refl

-- Where no current flows at a tick every row is 0 there, and the other way round.

flows_not : (s : Sheet) (t : ℕ) → flows_at s t ≡ false → (c : ℕ) → c < 16 → s c t ≡ 0
unfolding flows_at
flows_not s t e c h = eqb-true (s c t) 0 (not-false (eqb (s c t) 0) (any_fails 16 (λ k. not (eqb (s k t) 0)) c e h))

rows_zero : (s : Sheet) (t : ℕ) → ((c : ℕ) → c < 16 → s c t ≡ 0) → flows_at s t ≡ false
unfolding flows_at
rows_zero s t none = any_none 16 _ (λ c h. rw (none c h) refl)

-- The quiet tick is the last at which some row is not 0.

empty_quiet : (s : Sheet) → Empty s → quiet_tick s ≡ 0
unfolding quiet_tick last_below
empty_quiet s none = last_beyond 512 0 (flows_at s) (omega arith) (λ t low h. rows_zero s t (λ c l. none c t l h))

pub quiet_last : (s : Sheet) → LastFlow s (quiet_tick s)
unfolding quiet_tick
quiet_last s = record {
  after = λ c t h late inside. flows_not s t (last_after 512 (flows_at s) t late inside) c h;
  at = λ none c t h inside. flows_not s t (last_none 512 (flows_at s) (rows_zero s _ none) t inside) c h;
  empty = empty_quiet s;
}

-- Of two sheets of which one is nowhere above the other, its quiet tick is not later. So sheets that agree have the same.

pub quiet_no_later : (s s' : Sheet) → ((c t : ℕ) → c < 16 → t < 512 → s c t ≤ s' c t) → quiet_tick s ≤ quiet_tick s'
unfolding quiet_tick
quiet_no_later s s' less =
    last_implied 512 (flows_at s) (flows_at s')
    (λ t h flows.
    cases (flows_at s' t)
    (λ b. b)
    (λ b. let none = rows_zero s t (λ c l. omega (arith, less c t l h, flows_not s' t b c l)) in absurd (false≢true (sym none ∙ flows))))

pub quiet_same : (s s' : Sheet) → ((c t : ℕ) → c < 16 → t < 512 → s c t ≡ s' c t) → quiet_tick s ≡ quiet_tick s'
quiet_same s s' same =
    omega (arith, quiet_no_later s s' (λ c t h l. omega (arith, same c t h l)), quiet_no_later s' s (λ c t h l. omega (arith, same c t h l)))

-- The scan downwards: the ticks from `stop` on have no current, nor has one that is passed.

pub quiet_from : {stop : ℕ} {words : List ℕ} → QuietFrom stop words → quiet_tick (sheet_in words) ≡ last_below stop (flows_at (sheet_in words))
unfolding quiet_tick
quiet_from {stop} {words} quiet =
    last_beyond 512 stop (flows_at (sheet_in words)) quiet.ticks (λ t low h. rows_zero (sheet_in words) t (λ c l. quiet.rows c t l low h))

-- From tick 512 on there is no tick, so that nothing is asked of the rows.
pub quiet_at_end : {words : List ℕ} → length words ≡ 8192 → QuietFrom 512 words
quiet_at_end long = record { ticks = omega arith; long = long; rows = λ c t h late inside. absurd (omega arith) }

module _ (s : Sheet) (t n : ℕ) (next : n ≡ t + 1) (so_far : quiet_tick s ≡ last_below n (flows_at s)) where
  last_is : quiet_tick s ≡ last_below (t + 1) (flows_at s)
  last_is = rw next at so_far

  pub tick_found : flows_at s t ≡ true → quiet_tick s ≡ t
  tick_found e = last_is ∙ last_next t (flows_at s) ∙ rw e refl

  pub tick_quiet : flows_at s t ≡ false → quiet_tick s ≡ last_below t (flows_at s)
  tick_quiet e = last_is ∙ last_next t (flows_at s) ∙ rw e refl
