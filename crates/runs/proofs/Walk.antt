-- A walk over the runs of a row by the next tick that is set and the next that is clear.
-- Assumes nothing.
use Prim.Native.Nat.{ℕ, zero, suc, ◌+◌, ◌-◌, ◌≤◌, ◌<◌}
use mathlib.Core.Bool.{Bool, true, false, false≢true}
use mathlib.Core.List.{List, [], ◌∷◌}
use mathlib.Core.Logic.{◌⊎◌, inl, inr, ⊎_elim}
use mathlib.Core.Path.{◌≡◌, refl, ap, ap₂, sym, subst, ◌∙◌}
use native.Mathlib.Nat.{add-zero, zero-add, suc-add, eq-or-lt_of_le}
use native.Mathlib.Omega.{arith}
use lib.ListN.{length}
use Rattle.laws.specs.Turn.{list_below}
use Rattle.bits.specs.Bits.{row_bit}
use Rattle.runs.specs.Runs.{Run, run, extend, runs_from, runs}
use Rattle.runs.specs.Rows.{NextAt}
use Rattle.runs.proofs.Runs.{Apart, extend_alone, extend_grows, extend_new, grows_or_new, runs_apart}
use Rattle.runs.proofs.Begins.{ticks_from, ticks_list}

module _ (held : ℕ → Bool) where
  clear_first : (t n : ℕ) → held t ≡ false → runs_from t (ticks_from held t (suc n)) ≡ runs_from (suc t) (ticks_from held (suc t) n)
  unfolding runs_from ticks_from
  clear_first t n e = rw e refl

  set_first : (t n : ℕ) → held t ≡ true → runs_from t (ticks_from held t (suc n)) ≡ extend t (runs_from (suc t) (ticks_from held (suc t) n))
  unfolding runs_from ticks_from
  set_first t n e = rw e refl

  -- Clear ticks are passed over.
  walk_clear : (t n m : ℕ) → ((u : ℕ) → t ≤ u → u < t + n → held u ≡ false)
      → runs_from t (ticks_from held t (n + m)) ≡ runs_from (t + n) (ticks_from held (t + n) m)
  walk_clear t zero m clear = ap₂ (λ t n. runs_from t (ticks_from held t n)) (sym (add-zero t)) (zero-add m) ∙ refl
  walk_clear t (suc n) m clear =
      let e : suc t + n ≡ t + suc n = omega arith in
      ap (λ n. runs_from t (ticks_from held t n)) (suc-add n m) ∙ clear_first t (n + m) (clear t (omega arith) (omega arith))
      ∙ walk_clear (suc t) n m (λ u a b. clear u (omega arith) (omega arith)) ∙ ap (λ t. runs_from t (ticks_from held t m)) e

  -- What follows a run: nothing, or a clear tick.
  abbrev Ended : ℕ → ℕ → Type 0
  Ended t m = (m ≡ 0) ⊎ (held t ≡ false)

  later : (t m : ℕ) → Apart t (t + length (ticks_from held t m)) (runs_from t (ticks_from held t m))
  later t m = runs_apart t (ticks_from held t m)

  end_alone : (t m : ℕ) → Ended (suc t) m
      → extend t (runs_from (suc t) (ticks_from held (suc t) m)) ≡ run t t ∷ runs_from (suc t) (ticks_from held (suc t) m)
  unfolding extend runs_from ticks_from
  end_alone t zero o = refl
  end_alone t (suc m) o =
      ⊎_elim (λ (e : suc m ≡ 0). absurd (omega arith))
      (λ e. rw (clear_first (suc t) m e) (extend_alone (later (suc (suc t)) m)))
      o

  -- Set ticks that end there are one run.
  walk_run : (t n m : ℕ) → ((u : ℕ) → t ≤ u → u < t + suc n → held u ≡ true) → Ended (t + suc n) m
      → runs_from t (ticks_from held t (suc n + m)) ≡ run t (t + n) ∷ runs_from (t + suc n) (ticks_from held (t + suc n) m)
  walk_run t zero m set ends =
      let e : suc t ≡ t + 1 = omega arith in
      let one : 1 + m ≡ suc m = omega arith in
      ap (λ n. runs_from t (ticks_from held t n)) one ∙ set_first t m (set t (omega arith) (omega arith))
      ∙ end_alone t m (subst (λ t. Ended t m) (sym e) ends)
      ∙ ap₂ (λ last t'. run t last ∷ runs_from t' (ticks_from held t' m)) (sym (add-zero t)) e
  walk_run t (suc n) m set ends =
      let e : suc t + suc n ≡ t + suc (suc n) = omega arith in
      let f : suc t + n ≡ t + suc n = omega arith in
      ap (λ n. runs_from t (ticks_from held t n)) (suc-add (suc n) m) ∙ set_first t (suc n + m) (set t (omega arith) (omega arith))
      ∙ ap (extend t) (walk_run (suc t) n m (λ u a b. set u (omega arith) (omega arith)) (subst (λ t. Ended t m) (sym e) ends))
      ∙ extend_grows t (suc t) (suc t + n) _ refl
      ∙ ap₂ (λ last t'. run t last ∷ runs_from t' (ticks_from held t' m)) f e

-- The runs of a row from tick t on.
unfoldable pub runs_after : List ℕ → ℕ → List Run
runs_after row t = runs_from t (ticks_from (row_bit row) t (256 - t))

pub all_runs : (row : List ℕ) → runs_after row 0 ≡ runs (list_below 256 (row_bit row))
unfolding runs_after
all_runs row = ap (runs_from 0) (ticks_list (row_bit row) 256)

pub passed : (row : List ℕ) (t s : ℕ) → NextAt true row t s → runs_after row t ≡ runs_after row s
unfolding runs_after
passed row t s w =
    let low = w.low in
    let high = w.high in
    let n : 256 - t ≡ (s - t) + (256 - s) = omega arith in
    let e : t + (s - t) ≡ s = omega arith in
    ap (λ n. runs_from t (ticks_from (row_bit row) t n)) n
    ∙ walk_clear (row_bit row) t (s - t) (256 - s) (λ u a b. w.other u a (omega arith))
    ∙ ap (λ t. runs_from t (ticks_from (row_bit row) t (256 - s))) e

pub none_left : (row : List ℕ) → runs_after row 256 ≡ []
unfolding runs_after runs_from ticks_from
none_left row = refl

-- From a set tick on there is a run that begins there.

extend_begins : (t : ℕ) (rs : List Run) → (last : ℕ) × (rest : List Run) × (extend t rs ≡ run t last ∷ rest)
unfolding extend
extend_begins t [] = (t, [], refl)
extend_begins t (run first last ∷ rest) =
    grows_or_new t first (λ e. (last, rest, extend_grows t first last rest e)) (λ n. (t, run first last ∷ rest, extend_new t first last rest n))

pub run_here : (row : List ℕ) (s : ℕ) → s < 256 → row_bit row s ≡ true
    → (last : ℕ) × (rest : List Run) × (runs_after row s ≡ run s last ∷ rest)
unfolding runs_after
run_here row s h set =
    let n : 256 - s ≡ suc (255 - s) = omega arith in
    let begins = extend_begins s (runs_from (suc s) (ticks_from (row_bit row) (suc s) (255 - s))) in
    (begins.0, begins.1, ap (λ n. runs_from s (ticks_from (row_bit row) s n)) n ∙ set_first (row_bit row) s (255 - s) set ∙ begins.2)

-- The next clear tick is after a set one.
pub run_long : (row : List ℕ) (s e : ℕ) → s < 256 → row_bit row s ≡ true → NextAt false row s e → s < e
run_long row s e h set w =
    ⊎_elim (λ (q : s ≡ e). absurd (false≢true (sym (w.found (omega arith)) ∙ ap (row_bit row) (sym q) ∙ set))) (λ l. l)
    (eq-or-lt_of_le w.low)

-- From a set tick s on there is a run to the next clear tick e, and the runs from there on.
pub next_run : (row : List ℕ) (s e : ℕ) → s < 256 → row_bit row s ≡ true → NextAt false row s e
    → runs_after row s ≡ run s (e - 1) ∷ runs_after row e
unfolding runs_after
next_run row s e h set w =
    let low = w.low in
    let high = w.high in
    let past = run_long row s e h set w in
    let n = e - s - 1 in
    let size : 256 - s ≡ suc n + (256 - e) = omega arith in
    let end : s + suc n ≡ e = omega arith in
    let last : s + n ≡ e - 1 = omega arith in
    ap (λ n. runs_from s (ticks_from (row_bit row) s n)) size
    ∙ walk_run (row_bit row) s n (256 - e) (λ u a b. w.other u a (omega arith))
    (⊎_elim (λ (q : e ≡ 256). inl (omega arith)) (λ l. inr (ap (row_bit row) end ∙ w.found l)) (eq-or-lt_of_le high))
    ∙ ap₂ (λ last t. run s last ∷ runs_from t (ticks_from (row_bit row) t (256 - e))) last end
