-- Examples of runs and filling (document 01, "Examples, starred ones proved"), and more that tell the definitions apart.
use Rattle.std.specs.Prelude.{ℕ, zero, suc, Bool, true, false, List, [], ◌∷◌, map, ◌≡◌, replicate}
use Rattle.excitation.specs.UncertaintySet.{code, decode}
use Rattle.fill.specs.Fill.{fill_ticks, filled}
use Rattle.runs.specs.Runs.{run, runs}
use Rattle.fill.specs.Gaps.{merged}

-- 256 ticks, held at 2, 4, 9, and at 2, 4, 6.
abbrev at249 : List Bool
at249 = false ∷ false ∷ true ∷ false ∷ true ∷ false ∷ false ∷ false ∷ false ∷ true ∷ replicate 246 false

abbrev at246 : List Bool
at246 = false ∷ false ∷ true ∷ false ∷ true ∷ false ∷ true ∷ replicate 249 false

-- Every other tick, n times.
unfoldable pub alternate : ℕ → List Bool
alternate zero = []
alternate (suc n) = true ∷ false ∷ alternate n

-- How many ticks are held.
unfoldable pub count : List Bool → ℕ
count [] = 0
count (true ∷ later) = suc (count later)
count (false ∷ later) = count later

pub record FillExamples : Type 0 where
  -- ★ Runs at 2, 4, 9: two hops give [2,4] and 9; one gives [2,9].
  pub two_hops : merged 2 (runs at249) ≡ run 2 4 ∷ run 9 9 ∷ []
  pub one_hop : merged 1 (runs at249) ≡ run 2 9 ∷ []
  -- ★ Runs at 2, 4, 6, two hops: [2,4] and 6.
  pub earliest : merged 2 (runs at246) ≡ run 2 4 ∷ run 6 6 ∷ []
  pub earliest_ticks : fill_ticks 2 at246 ≡ false ∷ false ∷ true ∷ true ∷ true ∷ false ∷ true ∷ replicate 249 false
  -- As many runs as the hop limit stay.
  pub three_hops : fill_ticks 3 at249 ≡ at249
  -- Neighbouring ticks form one run: Figure 6's [2,2] and [3,3] are [2,3].
  pub neighbours : runs (false ∷ false ∷ true ∷ true ∷ false ∷ []) ≡ run 2 3 ∷ []
  -- 128 runs, filled to 16: 112 gaps of one tick.
  pub many : count (fill_ticks 16 (alternate 128)) ≡ 240
  -- Each excitation by itself: l is at ticks 0 and 2, hl at tick 1 alone.
  pub apart : map code (filled 1 (map decode (1 ∷ 4 ∷ 1 ∷ 0 ∷ []))) ≡ 1 ∷ 5 ∷ 1 ∷ 0 ∷ []
