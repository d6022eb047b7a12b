-- The gaps between runs, and runs merged until they are at most the hop limit (document 01, "Envelope").
use Rattle.std.specs.Prelude.{ℕ, zero, suc, ◌-◌, true, false, cond, List, [], ◌∷◌, eqb, leb, ltb, length}
use Rattle.runs.specs.Runs.{Run, run}

-- Document 01's gap between two runs: its first tick and how many ticks it has.
pub data Gap : Type 0 where
  gap : ℕ → ℕ → Gap

-- The gaps between runs, in order: `next` is the tick after the run before.
unfoldable pub gaps_after : ℕ → List Run → List Gap
gaps_after next [] = []
gaps_after next (run first last ∷ rest) = gap next (first - next) ∷ gaps_after (suc last) rest

unfoldable pub gaps : List Run → List Gap
gaps [] = []
gaps (run first last ∷ rest) = gaps_after (suc last) rest

-- Of two gaps the shorter, the earlier on a tie; and the shortest of several, the earliest on a tie.
unfoldable pub shorter : Gap → Gap → Gap
shorter (gap s n) (gap t m) = cond (ltb m n) (gap t m) (gap s n)

unfoldable pub shortest : Gap → List Gap → Gap
shortest g [] = g
shortest g (h ∷ rest) = shortest (shorter g h) rest

-- The runs after a gap between two of them is filled: these two are one.
unfoldable pub close : Gap → List Run → List Run
close g [] = []
close g (r ∷ []) = r ∷ []
close (gap s n) (run a b ∷ run c d ∷ rest) =
    elim (eqb (suc b) s) [ true ↦ run a d ∷ rest | false ↦ run a b ∷ close (gap s n) (run c d ∷ rest) ]

unfoldable pub close_first : List Gap → List Run → List Run
close_first [] rs = rs
close_first (g ∷ rest) rs = close (shortest g rest) rs

unfoldable pub close_shortest : List Run → List Run
close_shortest rs = close_first (gaps rs) rs

-- While runs exceed the hop limit, fill the shortest gap, the earliest on a tie: at most n times.
unfoldable pub close_while : ℕ → ℕ → List Run → List Run
close_while zero hops rs = rs
close_while (suc n) hops rs = elim (leb (length rs) hops) [ true ↦ rs | false ↦ close_while n hops (close_shortest rs) ]

-- Each time there is one run less, so as many times as there are runs is enough.
unfoldable pub merged : ℕ → List Run → List Run
merged hops rs = close_while (length rs) hops rs
