-- Laws of a contact's current: what each net adds to it, and that it grows with its gates' currents.
-- Assumes nothing.
use Rattle.std.proofs.Common.{◌≡◌, ℕ, ◌<◌, ◌≤◌, Bool, true, false, cond, eqb, List, [], get_or, refl, le_refl, arith}
use borrow.Table.Steps.{cases}
use Rattle.laws.proofs.Below.{sum_at_most}
use Rattle.block.specs.Record.{File, net_count, is_input}
use Rattle.block.specs.View.{gate_of}
use Rattle.current.specs.Current.{Transition, gate_current, draws_at, part, contact_current}

part_where : (file : File) (transitions : List (List Transition)) (c t net : ℕ) (b : Bool) → draws_at file c net ≡ b
    → part file transitions c t net ≡ cond b (gate_current (gate_of file net) (get_or transitions net []) t) 0
unfolding part
part_where file transitions c t net true e = rw (e, part) refl
part_where file transitions c t net false e = rw (e, part) refl

-- A gate adds its current to its own contact, and an input adds nothing.

pub part_of_gate : (file : File) (transitions : List (List Transition)) (c t net : ℕ) → is_input file net ≡ false
    → part file transitions c t net
    ≡ cond (eqb (gate_of file net).contact c) (gate_current (gate_of file net) (get_or transitions net []) t) 0
unfolding draws_at gate_of
part_of_gate file transitions c t net gate = part_where file transitions c t net (eqb (gate_of file net).contact c) (rw gate refl)

pub part_of_input : (file : File) (transitions : List (List Transition)) (c t net : ℕ) → is_input file net ≡ true → part file transitions c t net ≡ 0
unfolding draws_at
part_of_input file transitions c t net input = part_where file transitions c t net false (rw input refl)

module _ (file : File) (transitions transitions' : List (List Transition)) (t : ℕ)
    (less : (net : ℕ) → net < net_count file → is_input file net ≡ false
    → gate_current (gate_of file net) (get_or transitions net []) t
    ≤ gate_current (gate_of file net) (get_or transitions' net []) t) where
  part_at_most : (c net : ℕ) → net < net_count file → part file transitions c t net ≤ part file transitions' c t net
  part_at_most c net h =
      cases (is_input file net)
      (λ input. rw (part_of_input file transitions c t net input) (omega arith))
      (λ gate. rw (part_of_gate file transitions c t net gate, part_of_gate file transitions' c t net gate)
      (cases (eqb (gate_of file net).contact c) (λ b. rw b (less net h gate)) (λ b. rw b (le_refl 0))))

  pub contact_at_most : (c : ℕ) → contact_current file transitions c t ≤ contact_current file transitions' c t
  unfolding contact_current
  contact_at_most c = sum_at_most (net_count file) (part file transitions c t) (part file transitions' c t) (part_at_most c)
