-- Filled sets (document 01, "Envelope").
use Rattle.std.specs.Prelude.{ℕ, Bool, List, [], ◌∷◌, map, length}
use Rattle.excitation.specs.Excitation.{l, h, hl, lh}
use Rattle.excitation.specs.UncertaintySet.{UncertaintySet, member}
use Rattle.excitation.specs.declared.Excitation.{Excitation}
use Rattle.runs.specs.Runs.{runs, ticks_inside}
use Rattle.fill.specs.Gaps.{merged}

-- At which ticks an excitation is held by the set of that tick.
unfoldable pub holding : Excitation → List UncertaintySet → List Bool
holding e sets = map (member e) sets

-- The ticks that hold an excitation once the gaps are filled.
unfoldable pub fill_ticks : ℕ → List Bool → List Bool
fill_ticks hops held = ticks_inside (merged hops (runs held)) 0 (length held)

-- The sets whose members are held at these ticks.
unfoldable pub sets_holding : List Bool → List Bool → List Bool → List Bool → List UncertaintySet
sets_holding [] hs hls lhs = []
sets_holding (a ∷ ls) [] hls lhs = []
sets_holding (a ∷ ls) (b ∷ hs) [] lhs = []
sets_holding (a ∷ ls) (b ∷ hs) (c ∷ hls) [] = []
sets_holding (a ∷ ls) (b ∷ hs) (c ∷ hls) (d ∷ lhs) =
    record { has_l = a; has_h = b; has_hl = c; has_lh = d } ∷ sets_holding ls hs hls lhs

-- Document 01's filled sets at ticks 0 to 255: for each excitation by itself, the maximal runs of ticks that hold it, and while they
-- exceed the hop limit, the shortest gap filled.
unfoldable pub filled : ℕ → List UncertaintySet → List UncertaintySet
filled hops sets =
    sets_holding
    (fill_ticks hops (holding l sets))
    (fill_ticks hops (holding h sets))
    (fill_ticks hops (holding hl sets))
    (fill_ticks hops (holding lh sets))
