-- Laws of the children of a case: the bytes of their sets, the one that has its parent's probe, and one child more.
-- Assumes nothing.
use Prim.Native.Nat.{ℕ, zero, suc, ◌+◌, ◌≤◌, ◌<◌}
use mathlib.Core.Bool.{true, false, cond}
use mathlib.Core.List.{List, [], ◌∷◌, ◌++◌, map, append-nil, map-append}
use mathlib.Core.Path.{◌≡◌, refl, ap, sym, ◌∙◌}
use native.Mathlib.Numerals.{add-one}
use native.Mathlib.Omega.{arith}
use lib.ListN.{length, get_or, set, length-set, length-append, length-map}
use lib.Seq.{get_or-set_same, get_or-set_other}
use borrow.Table.Steps.{cases}
use Rattle.laws.proofs.Numbers.{of_each}
use Rattle.laws.proofs.Turn.{list_is}
use Rattle.excitation.specs.Excitation.{l, h, hl, lh, excitation_of, byte_of}
use Rattle.excitation.specs.UncertaintySet.{UncertaintySet, member, empty, code, decode, single, sets_in}
use Rattle.excitation.specs.declared.Excitation.{Excitation}
use Rattle.excitation.proofs.Bytes.{byte_forth}
use Rattle.excitation.proofs.Codes.{code_below, decode_code, set_at, sets_long}
use Rattle.excitation.proofs.Finite.{for_each}
use Rattle.cases.specs.Case.{Case, first_allowed, probe, members_below, children_below}
use Rattle.cases.specs.Records.{SetCodes, child_codes}
use Rattle.cases.proofs.Probes.{probe_kept}

single_low : (x : Excitation) → 1 ≤ code (single x)
unfolding code
single_low = for_each (λ x. 1 ≤ code (single x)) (omega arith) (omega arith) (omega arith) (omega arith)

-- The bytes of a child's sets, and its sets.

module _ (inputs : ℕ) (few : inputs ≤ 64) (parent : List ℕ) (long : length parent ≡ 64) (input : ℕ) (inside : input < inputs) (e : Excitation) where
  abbrev one : UncertaintySet
  one = single e

  byte_here : get_or (child_codes parent input e) input 0 ≡ code one
  byte_here = get_or-set_same parent input (code one) 0 (omega arith)

  byte_other : (net : ℕ) → (net ≡ input → ⊥) → get_or (child_codes parent input e) net 0 ≡ get_or parent net 0
  byte_other net d = get_or-set_other parent input net (code one) 0 d

  pub child_coded : SetCodes inputs parent → SetCodes inputs (child_codes parent input e)
  child_coded coded = record {
    low = of_each (λ net. net < inputs → 1 ≤ get_or (child_codes parent input e) net 0) input
        (λ h. omega (arith, byte_here, single_low e))
        (λ net d h. omega (arith, byte_other net d, coded.low net h));
    high = of_each (λ net. net < inputs → get_or (child_codes parent input e) net 0 ≤ 15) input
        (λ h. omega (arith, byte_here, code_below one))
        (λ net d h. omega (arith, byte_other net d, coded.high net h));
    none = λ j l m. byte_other j (λ q. omega arith) ∙ coded.none j l m;
  }

  pub child_sets : sets_in inputs (child_codes parent input e) ≡ set (sets_in inputs parent) input one
  unfolding sets_in
  child_sets =
      let sets = sets_in inputs parent in
      sym
      (list_is inputs (λ net. decode (get_or (child_codes parent input e) net 0)) empty (set sets input one)
      (length-set sets input one ∙ sets_long inputs parent)
      (of_each (λ net. net < inputs → get_or (set sets input one) net empty ≡ decode (get_or (child_codes parent input e) net 0)) input
      (λ h. get_or-set_same sets input one empty (omega (arith, sets_long inputs parent)) ∙ sym (ap decode byte_here ∙ decode_code one))
      (λ net d h. get_or-set_other sets input net one empty d ∙ set_at inputs parent net empty h ∙ ap decode (sym (byte_other net d)))))

  -- The child of the first allowed of the parent's set has the parent's probe.
  pub child_probe : e ≡ first_allowed (decode (get_or parent input 0)) → probe (sets_in inputs (child_codes parent input e)) ≡ probe (sets_in inputs parent)
  child_probe first =
      let sets = sets_in inputs parent in
      let is : e ≡ first_allowed (get_or sets input empty) = first ∙ ap first_allowed (sym (set_at inputs parent input empty inside)) in
      ap probe child_sets ∙ ap (λ x. probe (set sets input (single x))) is ∙ probe_kept sets input

-- The excitations in the order of their bytes, in which the children are made.

abbrev pub in_order : ℕ → Excitation
in_order k = get_or (l ∷ h ∷ hl ∷ lh ∷ []) k l

pub in_order_is : (k : ℕ) → in_order k ≡ excitation_of k
unfolding excitation_of
in_order_is k = refl

pub in_order_byte : (k : ℕ) → k < 4 → byte_of (in_order k) ≡ k
in_order_byte k below = ap byte_of (in_order_is k) ∙ byte_forth k (omega arith)

-- There are no more children than excitations.

members_few : (n : ℕ) (s : UncertaintySet) → length (members_below n s) ≤ n
unfolding members_below
members_few zero s = omega arith
members_few (suc n) s =
    cases (member (excitation_of n) s)
    (λ t. rw t (omega (arith, length-append (members_below n s) (excitation_of n ∷ []), members_few n s)))
    (λ t. rw t (omega (arith, length-append (members_below n s) [], members_few n s)))

pub children_few : (n input : ℕ) (case : Case) → length (children_below n input case) ≤ n
unfolding children_below
children_few n input case =
    omega (arith, length-map (members_below n (get_or case input empty)) (λ e. set case input (single e)), members_few n (get_or case input empty))

-- The children of one excitation more: one more where the set allows it, else the same.

module _ (e input : ℕ) (case : Case) where
  abbrev child : Excitation → Case
  child x = set case input (single x)

  members_next : members_below (e + 1) (get_or case input empty)
      ≡ members_below e (get_or case input empty) ++ cond (member (excitation_of e) (get_or case input empty)) (excitation_of e ∷ []) []
  unfolding members_below
  members_next = rw add-one refl

  pub children_more : member (excitation_of e) (get_or case input empty) ≡ true
      → children_below (e + 1) input case ≡ children_below e input case ++ (set case input (single (excitation_of e)) ∷ [])
  unfolding children_below
  children_more h =
      ap (map child) members_next
      ∙ ap (λ b. map child (members_below e (get_or case input empty) ++ cond b (excitation_of e ∷ []) [])) h
      ∙ map-append child (members_below e (get_or case input empty)) (excitation_of e ∷ [])

  pub children_same : member (excitation_of e) (get_or case input empty) ≡ false → children_below (e + 1) input case ≡ children_below e input case
  unfolding children_below
  children_same h =
      ap (map child) members_next
      ∙ ap (λ b. map child (members_below e (get_or case input empty) ++ cond b (excitation_of e ∷ []) [])) h
      ∙ ap (map child) (append-nil (members_below e (get_or case input empty)))
