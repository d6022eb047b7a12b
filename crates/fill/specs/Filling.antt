-- What the code does to the rows of a net (for document 01, "Envelope"), one excitation after another and one gap after another.
use Rattle.std.specs.Prelude.{ℕ, ◌+◌, ◌*◌, ◌≤◌, ◌<◌, Bool, false, List, ◌⊎◌, ◌≡◌, length, get_or}
use Rattle.laws.specs.Settled.{SettledAfter}
use Rattle.laws.specs.Turn.{list_below}
use Rattle.excitation.specs.Excitation.{same}
use Rattle.excitation.specs.UncertaintySet.{UncertaintySet, member}
use Rattle.excitation.specs.declared.Excitation.{Excitation}
use Rattle.rows.specs.Rows.{set_in}
use Rattle.runs.specs.Rows.{ticks_in, runs_in}
use Rattle.runs.specs.Runs.{Run}
use Rattle.fill.specs.Fill.{fill_ticks, filled}
use Rattle.fill.specs.Gaps.{Gap, gap, gaps, shortest, close_shortest}
use Rattle.fill.specs.declared.Between.{Between}

-- The gap that the code has found.
abbrev pub gap_of : Between → Gap
gap_of b = gap b.start b.size

-- The shortest gap between runs of 256 ticks. A gap of 256 ticks, which is longer than any, stands for none.
unfoldable pub shortest_gap : List Run → Gap
shortest_gap rs = shortest (gap 0 256) (gaps rs)

-- A row after its shortest gap was filled.
pub record GapFilled (given after : List ℕ) : Type 0 where
  pub long : length after ≡ 4
  pub closed : runs_in after ≡ close_shortest (runs_in given)

-- A row after it was filled.
pub record RowFilled (hops : ℕ) (given after : List ℕ) : Type 0 where
  pub long : length after ≡ 4
  pub ticks : ticks_in after ≡ fill_ticks hops (ticks_in given)

-- The sets of a net at ticks 0 to 255, and the ticks at which they have an excitation.
abbrev pub sets_in : List ℕ → ℕ → List UncertaintySet
sets_in work net = list_below 256 (set_in work net)

abbrev pub held_in : Excitation → List ℕ → ℕ → List Bool
held_in e work net = list_below 256 (λ t. member e (set_in work net t))

-- A buffer of which at most the 128 bytes of a net's sets changed.
pub record SetsChanged (net : ℕ) (given after : List ℕ) : Type 0 where
  pub long : length after ≡ length given
  pub rest : (j : ℕ) → (j < 160 * net) ⊎ (160 * net + 128 ≤ j) → get_or after j 0 ≡ get_or given j 0

-- The buffer after an excitation of a net was filled. Its sets are the same after tick `last`, as they were before.
pub record OneFilled (hops last : ℕ) (e : Excitation) (net : ℕ) (given after : List ℕ) : Type 0 where
  pub only : SetsChanged net given after
  pub settled : SettledAfter last (set_in after net)
  pub others : (f : Excitation) → same f e ≡ false → held_in f after net ≡ held_in f given net
  pub ticks : held_in e after net ≡ fill_ticks hops (held_in e given net)

-- The buffer after a net was filled.
pub record Filled (hops last net : ℕ) (given after : List ℕ) : Type 0 where
  pub only : SetsChanged net given after
  pub settled : SettledAfter last (set_in after net)
  pub sets : sets_in after net ≡ filled hops (sets_in given net)
