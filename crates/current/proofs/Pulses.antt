-- Laws of a pulse: it rises to its peak, falls after it and ends. Nothing else opens its level but `level_by_lem` and the computed examples.
-- Assumes nothing.
use Rattle.std.proofs.Common.{◌≡◌, ℕ, ◌+◌, ◌-◌, ◌*◌, ◌<◌, ◌≤◌, eqb, ltb, leb, sym, refl, ap, ◌∙◌, le_refl, mul-le-mul_right, mul-le-mul_left, arith, ltb-false, le-ltb, eqb-true, le-leb, leb-false, leb-true}
use borrow.Author.Tests.{lt-leb, eqb-false}
use borrow.Table.Steps.{cases}
use Rattle.current.specs.Levels.{InRange, level_by, Factored}
use Rattle.current.specs.Pulse.{level_after, pulse, pulse_at}
use Rattle.current.specs.Rounding.{nearest, NearestEven}
use Rattle.current.proofs.Levels.{level_by_lem}
use Rattle.current.proofs.Rounding.{nearest_none, nearest_whole, nearest_grows, nearest_right}

-- A pulse by its parts.

pulse_up : (P r f k : ℕ) → k ≤ r → pulse P r f k ≡ level_after P r k
unfolding pulse
pulse_up P r f k h = rw (le-leb k r h)

pulse_down : (P r f k : ℕ) → r < k → k ≤ r + f → pulse P r f k ≡ level_after P f (r + f - k)
unfolding pulse
pulse_down P r f k h l = rw (lt-leb k r h, le-leb k (r + f) l)

pulse_over : (P r f k : ℕ) → r + f < k → pulse P r f k ≡ 0
unfolding pulse
pulse_over P r f k l = rw (lt-leb k r (omega arith), lt-leb k (r + f) l)

-- The level is the nearest whole number, an exact half going to the even one.
pub level_nearest : (P steps j : ℕ) → 1 ≤ steps → NearestEven (P * j) steps (level_after P steps j)
unfolding level_after
level_nearest P steps j one = nearest_right (P * j) steps one

-- How the level goes with the steps and with the peak.

level_rises : (P steps : ℕ) {j k : ℕ} → 1 ≤ steps → j ≤ k → level_after P steps j ≤ level_after P steps k
unfolding level_after
level_rises P steps {j} {k} one h = nearest_grows steps one (mul-le-mul_left P h)

level_grows : {P Q : ℕ} (steps j : ℕ) → 1 ≤ steps → P ≤ Q → level_after P steps j ≤ level_after Q steps j
unfolding level_after
level_grows {P} {Q} steps j one h = nearest_grows steps one (mul-le-mul_right j h)

level_none : (P steps j : ℕ) → j ≡ 0 → level_after P steps j ≡ 0
unfolding level_after
level_none P steps j e = rw e (ap (λ x. nearest x steps) (let z : P * 0 ≡ 0 = omega arith in z) ∙ nearest_none steps)

level_top : (P steps : ℕ) → 1 ≤ steps → level_after P steps steps ≡ P
unfolding level_after
level_top P steps one = nearest_whole P one

level_most : (P steps j : ℕ) → j ≤ steps → level_after P steps j ≤ P
level_most P steps j h =
    cases (eqb j 0)
    (λ t. rw (level_none P steps j (eqb-true j 0 t)) (omega arith))
    (λ t. let one : 1 ≤ steps = omega (arith, eqb-false j 0 t) in omega (arith, level_rises P steps one h, level_top P steps one))

module _ {P r f : ℕ} (range : InRange P r f) where
  pulse_top : pulse P r f r ≡ P
  pulse_top = pulse_up P r f r (le_refl r) ∙ level_top P r range.rise_low

  -- The peak is also the first level of the fall.
  pulse_from_top : (k : ℕ) → r ≤ k → k ≤ r + f → pulse P r f k ≡ level_after P f (r + f - k)
  pulse_from_top k h l =
      cases (leb k r)
      (λ t. let q = leb-true k r t in
      ap (pulse P r f) (let z : k ≡ r = omega arith in z) ∙ pulse_top ∙ sym (level_top P f range.fall_low)
      ∙ ap (level_after P f) (let z : f ≡ r + f - k = omega arith in z))
      (λ t. pulse_down P r f k (leb-false k r t) l)

  pub pulse_ends : (k : ℕ) → r + f ≤ k → pulse P r f k ≡ 0
  pulse_ends k h =
      let low = range.fall_low in
      cases (leb k (r + f))
      (λ t. let q = leb-true k (r + f) t in pulse_down P r f k (omega arith) q ∙ level_none P f (r + f - k) (omega arith))
      (λ t. pulse_over P r f k (leb-false k (r + f) t))

  pub pulse_most : (k : ℕ) → pulse P r f k ≤ P
  pulse_most k =
      cases (leb k r)
      (λ t. let h = leb-true k r t in rw (pulse_up P r f k h) (level_most P r k h))
      (λ t. let h = leb-false k r t in
      cases (leb k (r + f))
      (λ u. rw (pulse_down P r f k h (leb-true k (r + f) u)) (level_most P f (r + f - k) (omega arith)))
      (λ u. rw (pulse_over P r f k (leb-false k (r + f) u)) (omega arith)))

  pub pulse_at_most : (D x t : ℕ) → pulse_at P r f D x t ≤ P
  unfolding pulse_at
  pulse_at_most D x t = cases (ltb (t + D) x) (λ b. rw b (omega arith)) (λ b. rw b (pulse_most (t + D - x)))

-- A pulse with a greater peak is nowhere below.
module _ {P Q r f : ℕ} (range : InRange P r f) (h : Q ≤ P) where
  pulse_grows : (k : ℕ) → pulse Q r f k ≤ pulse P r f k
  pulse_grows k =
      cases (leb k r)
      (λ t. let l = leb-true k r t in rw (pulse_up P r f k l, pulse_up Q r f k l) (level_grows r k range.rise_low h))
      (λ t. let l = leb-false k r t in
      cases (leb k (r + f))
      (λ u. let m = leb-true k (r + f) u in
      rw (pulse_down P r f k l m, pulse_down Q r f k l m) (level_grows f (r + f - k) range.fall_low h))
      (λ u. rw (pulse_over Q r f k (leb-false k (r + f) u)) (omega arith)))

  pub pulse_at_grows : (D x t : ℕ) → pulse_at Q r f D x t ≤ pulse_at P r f D x t
  unfolding pulse_at
  pulse_at_grows D x t = cases (ltb (t + D) x) (λ b. rw b (omega arith)) (λ b. rw b (pulse_grows (t + D - x)))

-- A pulse from its start on.
pub at_start : (P r f D x t k : ℕ) → t + D ≡ x + k → pulse_at P r f D x t ≡ pulse P r f k
unfolding pulse_at
at_start P r f D x t k e = rw (le-ltb (t + D) x (omega arith)) (ap (pulse P r f) (let z : t + D - x ≡ k = omega arith in z))

-- A pulse has ended where its fall is past.
pub pulse_quiet : (P r f D x t : ℕ) → x + r + f < t + D → pulse_at P r f D x t ≡ 0
unfolding pulse_at
pulse_quiet P r f D x t h = rw (le-ltb (t + D) x (omega arith)) (pulse_over P r f (t + D - x) (omega arith))

-- With its rise and its fall in range, it is 0 where its fall ends.
pub pulse_at_ends : {P r f : ℕ} → InRange P r f → (D x t : ℕ) → x + r + f ≤ t + D → pulse_at P r f D x t ≡ 0
pulse_at_ends {P} {r} {f} range D x t h = at_start P r f D x t (t + D - x) (omega arith) ∙ pulse_ends range (t + D - x) (omega arith)

-- A pulse is 0 up to its start.
pub pulse_waits : (P r f D x t : ℕ) → t + D ≤ x → pulse_at P r f D x t ≡ 0
unfolding pulse_at
pulse_waits P r f D x t h =
    cases (ltb (t + D) x)
    (λ b. rw b refl)
    (λ b. let late = ltb-false (t + D) x b in
    let begins : t + D - x ≡ 0 = omega arith in
    rw (b, begins) (pulse_up P r f 0 (omega arith) ∙ level_none P r 0 refl))

-- Pulses that start as long before a tick are the same there.
pub same_age : (P r f D x t D' x' t' : ℕ) → t + D + x' ≡ t' + D' + x → pulse_at P r f D x t ≡ pulse_at P r f D' x' t'
same_age P r f D x t D' x' t' e =
    cases (leb (t + D) x)
    (λ b. let h = leb-true (t + D) x b in pulse_waits P r f D x t h ∙ sym (pulse_waits P r f D' x' t' (omega arith)))
    (λ b. let h = leb-false (t + D) x b in
    at_start P r f D x t (t + D - x) (omega arith) ∙ sym (at_start P r f D' x' t' (t + D - x) (omega arith)))

-- The levels that the code takes are those of the pulse.
module _ {P r f rising falling : ℕ} (ready : Factored P r f rising falling) (k : ℕ) where
  pub rise_level : {level : ℕ} → k < r → level ≡ level_by P rising k → level ≡ pulse P r f k
  rise_level h e =
      let range = ready.range in
      let high = range.rise_high in
      e ∙ ap (λ factor. level_by P factor k) ready.rising_by ∙ level_by_lem P r k range.peak_high range.rise_low high (omega arith)
      ∙ sym (pulse_up P r f k (omega arith))

  pub fall_level : {level : ℕ} → k ≤ f → level ≡ level_by P falling (f - k) → level ≡ pulse P r f (r + k)
  fall_level l e =
      let range = ready.range in
      let high = range.fall_high in
      let steps : r + f - (r + k) ≡ f - k = omega arith in
      e ∙ ap (λ factor. level_by P factor (f - k)) ready.falling_by ∙ level_by_lem P f (f - k) range.peak_high range.fall_low high (omega arith)
      ∙ sym (ap (level_after P f) steps) ∙ sym (pulse_from_top range (r + k) (omega arith) (omega arith))
