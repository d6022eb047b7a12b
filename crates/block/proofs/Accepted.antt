-- What Read's acceptance says of a file.
-- Assumes nothing.
use Rattle.block.specs.declared.verdict.Reason.TheVariants.{LateArrival}
use Rattle.std.specs.Prelude.{Ok, Err}
use Rattle.block.specs.Verdict.{Verdict, Accepted}
use Rattle.block.specs.Refusals.{counts}
use Prim.Native.Nat.{ℕ, zero, suc, ◌+◌, ◌%◌, ◌≤◌, ◌<◌}
use mathlib.Core.Path.{◌≡◌, refl, sym, ap, ◌∙◌}
use mathlib.Core.Bool.{true, false, false≢true}
use mathlib.Core.List.{[]}
use mathlib.Core.Logic.{⊎_elim}
use native.Mathlib.Nat.{eq-or-lt_of_le}
use native.Mathlib.Omega.{arith}
use lib.Dec.{leb}
use lib.ListN.{length, get_or}
use borrow.Author.Tests.{leb-true, ltb-true, eqb-true}
use Rattle.laws.specs.Below.{all_below}
use Rattle.laws.proofs.Tests.{and_left, and_right}
use Rattle.laws.proofs.Below.{count_of_all, count_at_most, count_first}
use Rattle.laws.proofs.Turn.{turn_at}
use Rattle.excitation.specs.declared.Excitation.{Excitation}
use Rattle.excitation.specs.UncertaintySet.{◌∈◌, decode}
use Rattle.excitation.proofs.Codes.{some_member}
use Rattle.block.specs.declared.verdict.Refusal.{Refusal}
use Rattle.block.specs.Record.{File, HasRecord, net_count, allowed, is_input}
use Rattle.block.specs.Block.{arrival_from, arrivals, arrival, inputs_below, input_count}
use Rattle.block.specs.Verdict.{verdict}
use Rattle.block.specs.Refusals.{starts_with_input, file_checks, input_in_place, arrival_in_time, field_checks, record_checks, records_from, read_checks, answer_to, read_of}
use Rattle.block.specs.Accepted.{InputRecord, AcceptedFile}
use Rattle.block.proofs.Verdicts.{passed, both_accepted}
use Rattle.block.proofs.Fields.{gate_record_lem, input_record_lem}

-- Counts are the answer to an accepted file alone, and a refusal to a refused one.
pub counts_of : (file : File) (v : Verdict) (nets inputs : ℕ) → answer_to file v ≡ Ok (counts nets inputs)
    → (v ≡ Accepted) × (net_count file ≡ nets) × (input_count file ≡ inputs)
counts_of file (Ok _) nets inputs e = let same : counts (net_count file) (input_count file) ≡ counts nets inputs = cc in (refl, ap (λ c. c.nets) same, ap (λ c. c.inputs) same)
counts_of file (Err r) nets inputs e = absurd (let z : ◌≡◌ {A = ℕ} 0 1 = cc in omega arith)

pub refused_verdict : (file : File) (v : Verdict) (r : Refusal) → answer_to file v ≡ Err r → v ≡ Err r
refused_verdict file (Ok _) r e = absurd (let z : ◌≡◌ {A = ℕ} 0 1 = cc in omega arith)
refused_verdict file (Err s) r e = let z : s ≡ r = cc in ap Err z

-- Every record of an accepted file was accepted.
each_record : (file : File) (n first : ℕ) → verdict (records_from file first n) ≡ Accepted
    → (net : ℕ) → first ≤ net → net < first + n → verdict (record_checks file net) ≡ Accepted
unfolding records_from
each_record file zero first e net low high = absurd (omega arith)
each_record file (suc n) first e net low high =
    let both = both_accepted (record_checks file first) (records_from file (suc first) n) e in
    ⊎_elim (λ (q : first ≡ net). rw q at both.0) (λ l. each_record file n (suc first) both.1 net l (omega arith)) (eq-or-lt_of_le low)

module _ (file : File) (net : ℕ) (judged : verdict (record_checks file net) ≡ Accepted) where
  fields_accepted : verdict (field_checks file net) ≡ Accepted
  unfolding record_checks
  fields_accepted = (both_accepted (field_checks file net) _ judged).0

  pub arrival_in_time_lem : arrival file net ≤ 255
  unfolding record_checks arrival_in_time
  arrival_in_time_lem = leb-true _ _ (passed LateArrival net _ [] (both_accepted (field_checks file net) _ judged).1).0

  placed : is_input file net ≡ true → (all_below net (is_input file) ≡ true) × (inputs_below file net < 64)
  unfolding input_in_place
  placed i =
      let p = (input_record_lem file net fields_accepted i).1 in
      (and_left _ _ p, ltb-true _ _ (and_right (all_below net (is_input file)) _ p))

-- What the whole-file checks leave true.
pub file_passed : (file : File) → verdict (file_checks file) ≡ Accepted
    → (length file % 20 ≡ 0) × (net_count file ≤ 1024) × (1 ≤ net_count file) × (is_input file 0 ≡ true)
unfolding file_checks starts_with_input
file_passed file e =
    let p1 = passed _ _ _ _ e in
    let p2 = passed _ _ _ _ p1.1 in
    let p3 = (passed _ _ _ _ p2.1).0 in
    (eqb-true _ _ p1.0, leb-true _ _ p2.0, leb-true _ _ (and_left _ _ p3), and_right (leb 1 (net_count file)) _ p3)

module _ (file : File) (nets : ℕ) (judged : (net : ℕ) → net < nets → verdict (record_checks file net) ≡ Accepted) where
  -- The inputs are the first nets.
  inputs_are : (net : ℕ) → net < nets
      → (net < inputs_below file nets → is_input file net ≡ true) × (inputs_below file nets ≤ net → is_input file net ≡ false)
  unfolding inputs_below
  inputs_are = count_first nets (is_input file) (λ net h i. (placed file net (judged net h) i).0)

  -- The first net is one of them.
  at_least_1 : 1 ≤ nets → is_input file 0 ≡ true → 1 ≤ inputs_below file nets
  at_least_1 h i = go (inputs_below file nets) refl
    where
      go : (n : ℕ) → inputs_below file nets ≡ n → 1 ≤ n
      go zero e = absurd (false≢true (sym ((inputs_are 0 h).1 (omega arith)) ∙ i))
      go (suc n) e = omega arith

  -- The last of them is at most the 64th.
  at_most_64 : inputs_below file nets ≤ 64
  unfolding inputs_below
  at_most_64 = go (inputs_below file nets) refl
    where
      go : (n : ℕ) → inputs_below file nets ≡ n → n ≤ 64
      go zero e = omega arith
      go (suc n) e =
          let most = count_at_most nets (is_input file) in
          let i = (inputs_are n (omega arith)).0 (omega arith) in
          let p = placed file n (judged n (omega arith)) i in
          let c : inputs_below file n ≡ n = count_of_all n (is_input file) p.0 in
          omega arith

pub accepted : (file : File) (nets inputs : ℕ) → read_of file ≡ Ok (counts nets inputs) → AcceptedFile file nets inputs
unfolding read_of read_checks inputs_below
accepted file nets inputs e =
    let v = counts_of file (verdict (read_checks file)) nets inputs e in
    let both = both_accepted (file_checks file) (records_from file 0 (net_count file)) v.0 in
    let f = file_passed file both.0 in
    let n : net_count file ≡ nets = v.1 in
    let judged : (net : ℕ) → net < nets → verdict (record_checks file net) ≡ Accepted =
    λ net h. each_record file (net_count file) 0 both.1 net (omega arith) (omega arith) in
    let i : inputs_below file nets ≡ inputs = ap (inputs_below file) (sym n) ∙ v.2 in
    let are = inputs_are file nets judged in
    let most = count_at_most nets (is_input file) in
    let few = at_most_64 file nets judged in
    let some = at_least_1 file nets judged (omega arith) f.3 in
    record {
      whole = omega arith;
      net_count_lem = n;
      input_count_lem = v.2;
      few_nets = omega arith;
      one_input = omega arith;
      few_inputs = omega arith;
      inputs_first = omega arith;
      input = λ net h. (input_record_lem file net (fields_accepted file net (judged net (omega arith))) ((are net (omega arith)).0 (omega arith))).0;
      no_input = λ net low high. (are net high).1 (omega arith);
      gate = λ net low high. gate_record_lem file net (fields_accepted file net (judged net high)) ((are net high).1 (omega arith));
      arrives = λ net h. arrival_in_time_lem file net (judged net h);
    }

-- What callers ask of an accepted file.

pub has_record : (file : File) (nets inputs net : ℕ) → AcceptedFile file nets inputs → net < nets → HasRecord file net
has_record file nets inputs net a h =
    let whole = a.whole in
    let few = a.few_nets in
    record { whole = omega arith; numbered = omega arith }

-- No input's set is empty.
pub allows_some : (file : File) (net : ℕ) → InputRecord file net → (e : Excitation) × (e ∈ decode (allowed file net))
allows_some file net i = some_member (allowed file net) i.allowed_low (let high = i.allowed_high in omega arith)

-- An arrival, once made, is the net's.
pub arrival_at : (file : File) (n net : ℕ) → net < n → get_or (arrivals file n) net 0 ≡ arrival file net
unfolding arrivals
arrival_at file n net h = turn_at (arrival_from file) n net 0 h
