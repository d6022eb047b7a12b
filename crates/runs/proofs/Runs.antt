-- Runs of ticks lie apart, and a tick lies inside one of them exactly where it is held.
-- Assumes nothing.
use Prim.Native.Nat.{ℕ, zero, suc, ◌+◌, ◌-◌, ◌*◌, ◌≤◌, ◌<◌}
use mathlib.Core.Bool.{Bool, true, false, false≢true}
use mathlib.Core.List.{List, [], ◌∷◌}
use mathlib.Core.Path.{◌≡◌, refl, sym, subst, ap, ◌∙◌}
use native.Mathlib.Nat.{le_refl, add-zero, zero-add}
use native.Mathlib.Omega.{arith}
use lib.Dec.{eqb, leb}
use lib.ListN.{length, get_or, get_or-eq_default}
use lib.Seq.{ext_get_or}
use borrow.Author.Tests.{eqb-true, eqb-false, leb-true, leb-false, le-leb, eq-eqb, ne_eqb}
use borrow.Table.Steps.{cases}
use Rattle.laws.proofs.Tests.{and_both, and_first_fails, and_second_fails, or_first}
use Rattle.runs.specs.Runs.{Run, run, extend, runs_from, runs, inside, ticks_inside}

-- Runs in order from tick t on, with a gap between any two, all before tick end.
pub data Apart : ℕ → ℕ → List Run → Type 0 where
  none : {t end : ℕ} → Apart t end []
  next : {t end first last : ℕ} {rest : List Run} → t ≤ first → first ≤ last → last < end → Apart (suc (suc last)) end rest
      → Apart t end (run first last ∷ rest)

apart_earlier : {t u end : ℕ} {rs : List Run} → u ≤ t → Apart t end rs → Apart u end rs
apart_earlier before none = none
apart_earlier {t} {u} before (next {first = first} low ordered high more) = let q : u ≤ first = omega arith in next q ordered high more

-- A run takes a tick, and so does the gap after it.
pub apart_few : {t end : ℕ} {rs : List Run} → Apart t end rs → 2 * length rs ≤ suc end - t
apart_few none = omega arith
apart_few (next low ordered high more) = omega (arith, apart_few more)

-- One tick more, before the runs.

pub extend_grows : (t first last : ℕ) (rest : List Run) → first ≡ suc t → extend t (run first last ∷ rest) ≡ run t last ∷ rest
unfolding extend
extend_grows t first last rest e = rw (eq-eqb first (suc t) e) refl

pub extend_new : (t first last : ℕ) (rest : List Run) → (first ≡ suc t → ⊥)
    → extend t (run first last ∷ rest) ≡ run t t ∷ run first last ∷ rest
unfolding extend
extend_new t first last rest n = rw (ne_eqb first (suc t) n) refl

-- The first run begins at the next tick, or later.
pub grows_or_new : {P : Type 0} (t first : ℕ) → (first ≡ suc t → P) → ((first ≡ suc t → ⊥) → P) → P
grows_or_new t first f g = cases (eqb first (suc t)) (λ e. f (eqb-true first (suc t) e)) (λ e. g (eqb-false first (suc t) e))

-- A tick that stands alone before runs that begin later.
pub extend_alone : {t end : ℕ} {rs : List Run} → Apart (suc (suc t)) end rs → extend t rs ≡ run t t ∷ rs
unfolding extend
extend_alone none = refl
extend_alone {t} (next {first = first} {last = last} {rest = rest} low ordered high more) = extend_new t first last rest (λ e. omega arith)

extend_apart : {t end : ℕ} {rs : List Run} → t < end → Apart (suc t) end rs → Apart t end (extend t rs)
unfolding extend
extend_apart {t} within none = next (le_refl t) (le_refl t) within none
extend_apart {t} {end} within (next {first = first} {last = last} {rest = rest} low ordered high more) =
    grows_or_new t first
    (λ e. let q : t ≤ last = omega arith in
    subst (λ rs. Apart t end rs) (sym (extend_grows t first last rest e)) (next (le_refl t) q high more))
    (λ n. let q : suc (suc t) ≤ first = omega arith in
    subst (λ rs. Apart t end rs) (sym (extend_new t first last rest n)) (next (le_refl t) (le_refl t) within (next q ordered high more)))

pub runs_apart : (t : ℕ) (held : List Bool) → Apart t (t + length held) (runs_from t held)
unfolding runs_from
runs_apart t [] = none
runs_apart t (true ∷ later) =
    let e : suc t + length later ≡ t + suc (length later) = omega arith in
    extend_apart (omega arith) (subst (λ end. Apart (suc t) end (runs_from (suc t) later)) e (runs_apart (suc t) later))
runs_apart t (false ∷ later) =
    let e : suc t + length later ≡ t + suc (length later) = omega arith in
    apart_earlier (omega arith) (subst (λ end. Apart (suc t) end (runs_from (suc t) later)) e (runs_apart (suc t) later))

-- Inside a run.

pub inside_first : (u first last : ℕ) (rest : List Run) → first ≤ u → u ≤ last → inside u (run first last ∷ rest) ≡ true
unfolding inside
inside_first u first last rest low high = or_first (inside u rest) (and_both (le-leb first u low) (le-leb u last high))

pub inside_rest : (u first last : ℕ) (rest : List Run) → (first ≤ u → u ≤ last → ⊥) → inside u (run first last ∷ rest) ≡ inside u rest
unfolding inside
inside_rest u first last rest n =
    cases (leb first u)
    (λ low. cases (leb u last)
    (λ high. absurd (n (leb-true first u low) (leb-true u last high)))
    (λ high. rw (and_second_fails (leb first u) high) refl))
    (λ low. rw (and_first_fails (leb u last) low) refl)

pub inside_before : {t end : ℕ} {rs : List Run} (u : ℕ) → Apart t end rs → u < t → inside u rs ≡ false
unfolding inside
inside_before u none before = refl
inside_before u (next {first = first} {last = last} {rest = rest} low ordered high more) before =
    inside_rest u first last rest (λ p q. omega arith) ∙ inside_before u more (omega arith)

pub inside_after : {t end : ℕ} {rs : List Run} (u : ℕ) → Apart t end rs → end ≤ u → inside u rs ≡ false
unfolding inside
inside_after u none after = refl
inside_after u (next {first = first} {last = last} {rest = rest} low ordered high more) after =
    inside_rest u first last rest (λ p q. omega arith) ∙ inside_after u more after

-- Runs that no tick before `first` lies inside begin there or later; runs that no tick from `end` on lies inside end before it.

pub none_before : {t end : ℕ} {rs : List Run} (first : ℕ) → ((u : ℕ) → u < first → inside u rs ≡ false) → Apart t end rs
    → Apart first end rs
none_before begin outside none = none
none_before begin outside (next {first = first} {last = last} {rest = rest} low ordered high more) =
    cases (leb begin first)
    (λ e. next (leb-true begin first e) ordered high more)
    (λ e. absurd (false≢true (sym (outside first (leb-false begin first e)) ∙ inside_first first first last rest (le_refl first) ordered)))

pub none_after : {t z : ℕ} {rs : List Run} (end : ℕ) → ((u : ℕ) → end ≤ u → inside u rs ≡ false) → Apart t z rs → Apart t end rs
none_after end outside none = none
none_after end outside (next {first = first} {last = last} {rest = rest} low ordered high more) =
    cases (leb end last)
    (λ e. absurd (false≢true (sym (outside last (leb-true end last e)) ∙ inside_first last first last rest ordered (le_refl last))))
    (λ e. next low ordered (leb-false end last e) (none_after end beyond more))
  where
    beyond : (u : ℕ) → end ≤ u → inside u rest ≡ false
    beyond u after =
        cases (leb u last)
        (λ e. inside_before u more (omega (arith, leb-true u last e)))
        (λ e. sym (inside_rest u first last rest (λ p q. omega (arith, leb-false u last e))) ∙ outside u after)

-- The runs of some ticks have inside them the ticks that are held.

inside_extended : {t end : ℕ} {rs : List Run} → Apart (suc t) end rs → inside t (extend t rs) ≡ true
unfolding extend
inside_extended {t} none = inside_first t t t [] (le_refl t) (le_refl t)
inside_extended {t} (next {first = first} {last = last} {rest = rest} low ordered high more) =
    grows_or_new t first
    (λ e. ap (inside t) (extend_grows t first last rest e) ∙ inside_first t t last rest (le_refl t) (omega arith))
    (λ n. ap (inside t) (extend_new t first last rest n) ∙ inside_first t t t (run first last ∷ rest) (le_refl t) (le_refl t))

-- A run and the same run from its second tick on.
inside_shorter : (t u last : ℕ) (rest : List Run) → t < u → inside u (run t last ∷ rest) ≡ inside u (run (suc t) last ∷ rest)
inside_shorter t u last rest after =
    cases (leb u last)
    (λ e. let high = leb-true u last e in
    inside_first u t last rest (omega arith) high ∙ sym (inside_first u (suc t) last rest (omega arith) high))
    (λ e. let high = leb-false u last e in
    inside_rest u t last rest (λ p q. omega arith) ∙ sym (inside_rest u (suc t) last rest (λ p q. omega arith)))

inside_later : (t u : ℕ) (rs : List Run) → t < u → inside u (extend t rs) ≡ inside u rs
unfolding extend
inside_later t u [] after = inside_rest u t t [] (λ p q. omega arith)
inside_later t u (run first last ∷ rest) after =
    grows_or_new t first
    (λ e. ap (inside u) (extend_grows t first last rest e)
    ∙ inside_shorter t u last rest after
    ∙ ap (λ k. inside u (run k last ∷ rest)) (sym e))
    (λ n. ap (inside u) (extend_new t first last rest n) ∙ inside_rest u t t (run first last ∷ rest) (λ p q. omega arith))

inside_runs_from : (t k : ℕ) (held : List Bool) → inside (t + k) (runs_from t held) ≡ get_or held k false
unfolding runs_from inside
inside_runs_from t k [] = refl
inside_runs_from t zero (true ∷ later) = rw (add-zero t) (inside_extended (runs_apart (suc t) later))
inside_runs_from t zero (false ∷ later) = rw (add-zero t) (inside_before t (runs_apart (suc t) later) (omega arith))
inside_runs_from t (suc k) (true ∷ later) =
    let e : t + suc k ≡ suc t + k = omega arith in
    inside_later t (t + suc k) (runs_from (suc t) later) (omega arith)
    ∙ ap (λ u. inside u (runs_from (suc t) later)) e
    ∙ inside_runs_from (suc t) k later
inside_runs_from t (suc k) (false ∷ later) =
    let e : t + suc k ≡ suc t + k = omega arith in
    ap (λ u. inside u (runs_from (suc t) later)) e ∙ inside_runs_from (suc t) k later

pub inside_runs : (t : ℕ) (held : List Bool) → inside t (runs held) ≡ get_or held t false
inside_runs t held = ap (λ u. inside u (runs held)) (sym (zero-add t)) ∙ inside_runs_from 0 t held

-- The ticks inside some runs.

pub length_inside : (rs : List Run) (t n : ℕ) → length (ticks_inside rs t n) ≡ n
unfolding ticks_inside
length_inside rs t zero = refl
length_inside rs t (suc n) = ap suc (length_inside rs (suc t) n)

inside_at_from : (rs : List Run) (t n k : ℕ) → k < n → get_or (ticks_inside rs t n) k false ≡ inside (t + k) rs
unfolding ticks_inside
inside_at_from rs t zero k h = absurd (omega arith)
inside_at_from rs t (suc n) zero h = rw (add-zero t) refl
inside_at_from rs t (suc n) (suc k) h =
    let e : suc t + k ≡ t + suc k = omega arith in
    inside_at_from rs (suc t) n k (omega arith) ∙ ap (λ u. inside u rs) e

pub inside_at : (end t : ℕ) {rs : List Run} → Apart 0 end rs → get_or (ticks_inside rs 0 end) t false ≡ inside t rs
inside_at end t {rs} apart =
    cases (leb end t)
    (λ e. let after = leb-true end t e in
    get_or-eq_default (ticks_inside rs 0 end) false (rw (length_inside rs 0 end) after) ∙ sym (inside_after t apart after))
    (λ e. inside_at_from rs 0 end t (leb-false end t e) ∙ ap (λ u. inside u rs) (zero-add t))

same_inside : (rs rs' : List Run) (t n : ℕ) → ((u : ℕ) → t ≤ u → inside u rs ≡ inside u rs') → ticks_inside rs t n ≡ ticks_inside rs' t n
unfolding ticks_inside
same_inside rs rs' t zero f = refl
same_inside rs rs' t (suc n) f = rw (f t (le_refl t), same_inside rs rs' (suc t) n (λ u h. f u (omega arith))) refl

-- The runs of the ticks that lie inside some runs are these runs again.
module _ (end : ℕ) where
  abbrev Again : ℕ → ℕ → Type 0
  Again t n = (rs : List Run) → Apart t end rs → runs_from t (ticks_inside rs t n) ≡ rs

  first_alone : (t n : ℕ) (rest : List Run) → Again (suc t) n → Apart (suc (suc t)) end rest
      → extend t (runs_from (suc t) (ticks_inside (run t t ∷ rest) (suc t) n)) ≡ run t t ∷ rest
  first_alone t n rest again more =
      ap (λ held. extend t (runs_from (suc t) held))
      (same_inside (run t t ∷ rest) rest (suc t) n (λ u h. inside_rest u t t rest (λ p q. omega arith)))
      ∙ ap (extend t) (again rest (apart_earlier (omega arith) more))
      ∙ extend_alone more

  first_longer : (t n last : ℕ) (rest : List Run) → Again (suc t) n → t < last → last < end → Apart (suc (suc last)) end rest
      → extend t (runs_from (suc t) (ticks_inside (run t last ∷ rest) (suc t) n)) ≡ run t last ∷ rest
  first_longer t n last rest again long high more =
      ap (λ held. extend t (runs_from (suc t) held))
      (same_inside (run t last ∷ rest) (run (suc t) last ∷ rest) (suc t) n (λ u h. inside_shorter t u last rest h))
      ∙ ap (extend t) (again (run (suc t) last ∷ rest) (next (le_refl (suc t)) long high more))
      ∙ extend_grows t (suc t) last rest refl

  begins_here : (t n last : ℕ) (rest : List Run) → Again (suc t) n → t ≤ last → last < end → Apart (suc (suc last)) end rest
      → runs_from t (ticks_inside (run t last ∷ rest) t (suc n)) ≡ run t last ∷ rest
  unfolding runs_from ticks_inside
  begins_here t n last rest again ordered high more =
      rw (inside_first t t last rest (le_refl t) ordered)
      (cases (eqb last t)
      (λ e. let q = eqb-true last t e in subst (λ k. runs_from t (true ∷ ticks_inside (run t k ∷ rest) (suc t) n) ≡ run t k ∷ rest) (sym q) (first_alone t n rest again (subst (λ k. Apart (suc (suc k)) end rest) q more)))
      (λ e. let q = eqb-false last t e in first_longer t n last rest again (omega arith) high more))

  runs_again_from : (t n : ℕ) → t + n ≡ end → Again t n
  unfolding runs_from ticks_inside inside
  runs_again_from t zero e rs none = refl
  runs_again_from t zero e rs (next low ordered high more) = absurd (omega arith)
  runs_again_from t (suc n) e rs none = runs_again_from (suc t) n (omega arith) [] none
  runs_again_from t (suc n) e rs (next {first = first} {last = last} {rest = rest} low ordered high more) =
      cases (eqb first t)
      (λ w. let q = eqb-true first t w in
      subst (λ k. runs_from t (ticks_inside (run k last ∷ rest) t (suc n)) ≡ run k last ∷ rest) (sym q) (begins_here t n last rest (runs_again_from (suc t) n (omega arith)) (omega arith) high more))
      (λ w. let q = eqb-false first t w in let later : suc t ≤ first = omega arith in
      let apart = next later ordered high more in
      ap (λ b. runs_from t (b ∷ ticks_inside (run first last ∷ rest) (suc t) n)) (inside_before t apart (omega arith))
      ∙ runs_again_from (suc t) n (omega arith) (run first last ∷ rest) apart)

-- Runs that have inside them the ticks that are held are the runs of these ticks.
pub runs_are : (held : List Bool) {rs : List Run} → Apart 0 (length held) rs → ((t : ℕ) → get_or held t false ≡ inside t rs)
    → runs held ≡ rs
runs_are held {rs} apart same =
    let n = length held in
    ap runs (ext_get_or false held (ticks_inside rs 0 n) (sym (length_inside rs 0 n)) (λ t h. same t ∙ sym (inside_at n t apart)))
    ∙ runs_again_from n 0 n (zero-add n) rs apart
