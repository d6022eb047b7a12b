-- Maximal runs of ticks (document 01, "Envelope").
use Rattle.std.specs.Prelude.{ℕ, zero, suc, Bool, true, false, cond, ◌&&◌, ◌||◌, List, [], ◌∷◌, eqb, leb}

-- Document 01's run, of ticks that hold an excitation: its first tick and its last.
pub data Run : Type 0 where
  run : ℕ → ℕ → Run

-- The runs with one tick more, which stands before them all. Neighbouring ticks form one run, so Figure 6's [2,2] and [3,3] are
-- [2,3] here.
unfoldable pub extend : ℕ → List Run → List Run
extend t [] = run t t ∷ []
extend t (run first last ∷ rest) = cond (eqb first (suc t)) (run t last ∷ rest) (run t t ∷ run first last ∷ rest)

-- Document 01's maximal runs, of ticks that are held or not. The first of these ticks is tick t.
unfoldable pub runs_from : ℕ → List Bool → List Run
runs_from t [] = []
runs_from t (true ∷ later) = extend t (runs_from (suc t) later)
runs_from t (false ∷ later) = runs_from (suc t) later

abbrev pub runs : List Bool → List Run
runs held = runs_from 0 held

-- Whether a tick lies inside one of the runs.
unfoldable pub inside : ℕ → List Run → Bool
inside t [] = false
inside t (run first last ∷ rest) = (leb first t && leb t last) || inside t rest

-- Of n ticks from tick t on, which lie inside the runs.
unfoldable pub ticks_inside : List Run → ℕ → ℕ → List Bool
ticks_inside rs t zero = []
ticks_inside rs t (suc n) = inside t rs ∷ ticks_inside rs (suc t) n
