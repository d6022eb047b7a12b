-- Laws of cases: their patterns, probes and children, and their evaluations.
-- Assumes nothing.
use Prim.Native.Nat.{ℕ, zero, suc, ◌<◌}
use mathlib.Core.Bool.{Bool, true, false, not, ◌||◌, false≢true}
use mathlib.Core.List.Memᴰ
use mathlib.Core.List.Forall₂
use mathlib.Core.List.{List, [], ◌∷◌, map, Memᴰ}
use mathlib.Core.Logic.{⊎_elim}
use mathlib.Core.Path.{◌≡◌, refl, sym, subst, ◌∙◌}
use native.Mathlib.Nat.{not-suc-le-zero, eq-or-lt_of_le, le_of_suc-le-suc}
use native.Mathlib.Omega.{arith}
use lib.ListN.{length, get_or, set, length-map, get_or-map}
use lib.Seq.{ext_get_or}
use borrow.Author.Tests.{not-true, not-false}
use borrow.Table.Steps.{cases}
use Rattle.laws.specs.Below.{all_below}
use Rattle.laws.proofs.Below.{all_at}
use Rattle.laws.proofs.Pairs.{pairs_in, pairs_long, pairs_from}
use Rattle.excitation.specs.Excitation.{l, h, same, excitation_of, byte_of}
use Rattle.excitation.specs.UncertaintySet.{UncertaintySet, member, ◌∈◌, empty, single, size}
use Rattle.excitation.specs.declared.Excitation.{Excitation}
use Rattle.excitation.proofs.Bytes.{byte_low, byte_back}
use Rattle.excitation.proofs.Finite.{for_each, at_members}
use Rattle.excitation.proofs.OneMember.{in_single, of_single, single_is}
use Rattle.excitation.proofs.Sets.{same_gives}
use Rattle.block.specs.Block.{Choice}
use Rattle.cases.specs.Case.{Case, undecided, decided, first_allowed, probe, evaluation_of, members_below, children_below, children}

-- Sets

-- Where a set has a member, the first allowed is one.
first_member : (s : UncertaintySet) (e : Excitation) → e ∈ s → first_allowed s ∈ s
unfolding first_allowed member
first_member = at_members (λ s e. member (first_allowed s) s) refl refl refl refl

-- A decided set has no other member.
first_only : (s : UncertaintySet) (e : Excitation) → undecided s ≡ false → e ∈ s → e ≡ first_allowed s
unfolding first_allowed member undecided size
first_only s e d m =
    same_gives e (first_allowed s) (rw d at (at_members (λ s e. undecided s || same e (first_allowed s)) refl refl refl refl s e m))

-- So it is the set of that one.
pub decided_single : (s : UncertaintySet) (e : Excitation) → undecided s ≡ false → e ∈ s → s ≡ single (first_allowed s)
decided_single s e d m = single_is s (first_allowed s) (first_member s e m) (λ x n. first_only s x d n)

pub first_single : (e : Excitation) → first_allowed (single e) ≡ e
unfolding first_allowed member
first_single = for_each (λ e. first_allowed (single e) ≡ e) refl refl refl refl

-- The excitations that a set allows are its members.

members_are : (n : ℕ) (s : UncertaintySet) {e : Excitation} → Memᴰ e (members_below n s) → e ∈ s
unfolding members_below
members_are zero s m = absurd (Memᴰ.not-nil m)
members_are (suc n) s {e} m =
    ⊎_elim (λ (before : Memᴰ e (members_below n s)). members_are n s before)
    (λ last. cases (member (excitation_of n) s)
    (λ t. subst (λ x. x ∈ s) (sym (Memᴰ.eq_of_singleton (rw t at last))) t)
    (λ t. absurd (Memᴰ.not-nil (rw t at last))))
    (Memᴰ.append_cases (members_below n s) m)

members_have : (n : ℕ) (s : UncertaintySet) (k : ℕ) → k < n → excitation_of k ∈ s → Memᴰ (excitation_of k) (members_below n s)
unfolding members_below
members_have zero s k h m = absurd (not-suc-le-zero h)
members_have (suc n) s k h m =
    ⊎_elim (λ (q : k ≡ n). rw q (Memᴰ.append_right (members_below n s) (rw (rw q at m) (Memᴰ.head refl))))
    (λ l. Memᴰ.append_left _ (members_have n s k l m))
    (eq-or-lt_of_le (le_of_suc-le-suc h))

members_all : (s : UncertaintySet) (e : Excitation) → e ∈ s → Memᴰ e (members_below 4 s)
members_all s e m =
    subst (λ x. Memᴰ x (members_below 4 s)) (byte_back e)
    (members_have 4 s (byte_of e) (omega (arith, byte_low e)) (subst (λ x. x ∈ s) (sym (byte_back e)) m))

-- A case with no empty set has its probe.
pub probe_chosen : (case : Case) → ((k : ℕ) → k < length case → (e : Excitation) × (e ∈ get_or case k empty)) → Choice (probe case) case
unfolding probe
probe_chosen case some =
    pairs_from ◌∈◌ (first_allowed empty) empty (map first_allowed case) case (length-map case first_allowed)
    (λ k h. let member = some k (rw (length-map case first_allowed) at h) in
    rw (get_or-map first_allowed case k empty) (first_member (get_or case k empty) member.0 member.1))

-- Cases with one input decided: a pattern of the case is one of such a case, a pattern of such a case is one of the case, and it has
-- its probe where the case has.

pub narrowed : (input : ℕ) {pattern : List Excitation} {case : Case} → Choice pattern case
    → Choice pattern (set case input (single (get_or pattern input l)))
narrowed input Forall₂.nil = Forall₂.nil
narrowed zero (Forall₂.cons {a = e} m rest) = Forall₂.cons (in_single e) rest
narrowed (suc input) (Forall₂.cons m rest) = Forall₂.cons m (narrowed input rest)

narrowed_inside : (case : Case) (input : ℕ) (e : Excitation) → e ∈ get_or case input empty → {pattern : List Excitation}
    → Choice pattern (set case input (single e)) → Choice pattern case
narrowed_inside [] input e m choice = choice
narrowed_inside (s ∷ rest) zero e m (Forall₂.cons {a = x} here choice) = Forall₂.cons (subst (λ x. x ∈ s) (sym (of_single e x here)) m) choice
narrowed_inside (s ∷ rest) (suc input) e m (Forall₂.cons here choice) = Forall₂.cons here (narrowed_inside rest input e m choice)

narrowed_probe : (case : Case) (input : ℕ) (e : Excitation) → Choice (probe case) case
    → Choice (probe (set case input (single e))) (set case input (single e))
unfolding probe
narrowed_probe [] input e choice = choice
narrowed_probe (s ∷ rest) zero e (Forall₂.cons m choice) = Forall₂.cons (subst (λ x. x ∈ single e) (sym (first_single e)) (in_single e)) choice
narrowed_probe (s ∷ rest) (suc input) e (Forall₂.cons m choice) = Forall₂.cons m (narrowed_probe rest input e choice)

-- The children of a case

module _ (input : ℕ) (case : Case) where
  -- A child is made of a member of the set that is split.
  child_of : {child : Case} → Memᴰ child (children input case)
      → (e : Excitation) × (e ∈ get_or case input empty) × (set case input (single e) ≡ child)
  unfolding children_below
  child_of m =
      let made = Memᴰ.of_map (λ e. set case input (single e)) (members_below 4 (get_or case input empty)) m in
      (made.0, members_are 4 (get_or case input empty) made.1, made.2)

  -- A child has its probe.
  pub child_filled : {child : Case} → Memᴰ child (children input case) → Choice (probe case) case → Choice (probe child) child
  child_filled m filled =
      let made = child_of m in
      subst (λ child. Choice (probe child) child) made.2 (narrowed_probe case input made.0 filled)

  -- A pattern of a child is one of the case.
  pub child_inside : {child : Case} → Memᴰ child (children input case) → {pattern : List Excitation} → Choice pattern child
      → Choice pattern case
  child_inside m {pattern} choice =
      let made = child_of m in
      narrowed_inside case input made.0 made.1 (subst (Choice pattern) (sym made.2) choice)

  -- A pattern of the case is one of a child.
  pub child_covers : (pattern : List Excitation) → input < length case → Choice pattern case
      → (child : Case) × Memᴰ child (children input case) × Choice pattern child
  unfolding children_below
  child_covers pattern h choice =
      let e = get_or pattern input l in
      let m = pairs_in ◌∈◌ choice l empty input (rw (pairs_long ◌∈◌ choice) h) in
      let child : Excitation → Case = λ e. set case input (single e) in
      (child e, Memᴰ.map child (members_all (get_or case input empty) e m), narrowed input choice)

-- Decided cases

-- The probe of a decided case is its one pattern.
decided_probe : (pattern : List Excitation) (case : Case) → decided case ≡ true → Choice pattern case → pattern ≡ probe case
unfolding decided probe
decided_probe pattern case d choice =
    ext_get_or (first_allowed empty) pattern (map first_allowed case) (pairs_long ◌∈◌ choice ∙ sym (length-map case first_allowed))
    (λ k h. first_only (get_or case k empty) (get_or pattern k (first_allowed empty))
    (not-true _ (all_at (length case) (λ input. not (undecided (get_or case input empty))) k d (rw (pairs_long ◌∈◌ choice) at h)))
    (pairs_in ◌∈◌ choice (first_allowed empty) empty k h)
    ∙ sym (get_or-map first_allowed case k empty))

-- The evaluation of a case

module _ {A : Type 0} (simulated : List Excitation → A) (enveloped : Case → A) where
  pub evaluation_decided : (case : Case) → decided case ≡ true → evaluation_of simulated enveloped case ≡ simulated (probe case)
  unfolding evaluation_of
  evaluation_decided case d = rw (d, evaluation_of) refl

  pub evaluation_undecided : (case : Case) → decided case ≡ false → evaluation_of simulated enveloped case ≡ enveloped case
  unfolding evaluation_of
  evaluation_undecided case d = rw (d, evaluation_of) refl

  -- What holds of a pattern's simulation and of the envelope of a case that has it holds of what is taken.
  pub evaluation_holds : (P : A → Type 0) (pattern : List Excitation) (case : Case) → Choice pattern case → P (simulated pattern)
      → P (enveloped case) → P (evaluation_of simulated enveloped case)
  unfolding evaluation_of
  evaluation_holds P pattern case choice here over =
      cases (decided case)
      (λ d. rw (d, evaluation_of) (subst (λ x. P (simulated x)) (decided_probe pattern case d choice) here))
      (λ d. rw (d, evaluation_of) over)

-- Undecided inputs

-- A case that is not decided has one.
pub some_undecided : (case : Case) → decided case ≡ false
    → (input : ℕ) × (input < length case) × (undecided (get_or case input empty) ≡ true)
unfolding decided all_below
some_undecided case d = go (length case) d
  where
    test : ℕ → Bool
    test input = not (undecided (get_or case input empty))

    go : (n : ℕ) → all_below n test ≡ false → (input : ℕ) × (input < n) × (undecided (get_or case input empty) ≡ true)
    go zero e = absurd (false≢true (sym e))
    go (suc n) e =
        cases (all_below n test)
        (λ t. (n, omega arith, not-false _ (rw t at e)))
        (λ t. let found = go n t in (found.0, omega (arith, found.1), found.2))

-- An undecided input is one of the case's.
pub undecided_inside : (case : Case) (input : ℕ) → undecided (get_or case input empty) ≡ true → input < length case
unfolding undecided size
undecided_inside [] input u = absurd (false≢true u)
undecided_inside (s ∷ rest) zero u = omega arith
undecided_inside (s ∷ rest) (suc input) u = omega (arith, undecided_inside rest input u)
