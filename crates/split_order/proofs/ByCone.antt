-- Laws of the list by cone: the numbers sort as the cones do, and what the first maker returns.
-- Assumes nothing.
use Rattle.operation.specs.Operation.{answer_after}
use Rattle.std.specs.Prelude.{Result, Ok, Err}
use Rattle.block.specs.Verdict.{Verdict, Accepted}
use Rattle.block.specs.declared.Counts.{Counts}
use Prim.Native.Nat.{ℕ, ◌-◌, ◌≤◌, ◌<◌}
use mathlib.Core.Bool.{false}
use mathlib.Core.List.{List, [], ◌∷◌}
use mathlib.Core.Path.{◌≡◌, refl, ap, sym, ◌∙◌}
use native.Mathlib.Omega.{arith}
use lib.Dec.{eqb, ltb}
use lib.ListN.{length, get_or, take, replicate, length-append}
use lib.Seq.{take_at}
use borrow.Author.Tests.{ltb-true, ltb-false, lt-ltb, le-ltb}
use borrow.Table.Steps.{cases}
use Rattle.laws.specs.Turn.{in_turn}
use Rattle.laws.proofs.Below.{count_at_most}
use Rattle.block.specs.Accepted.{AcceptedFile}
use Rattle.block.specs.Block.{fed_from, cone_size, input_count}
use Rattle.block.specs.Record.{File, net_count}
use Rattle.block.specs.Refusals.{read_checks, answer_to, read_of}
use Rattle.block.specs.Verdict.{verdict}
use Rattle.block.specs.declared.verdict.Refusal.{Refusal}
use Rattle.block.proofs.Accepted.{accepted, counts_of, refused_verdict}
use Rattle.operation.specs.SplitOrder.{list_bytes, split_order}
use Rattle.operation.specs.declared.SplitOrder.{SplitOrder}
use Rattle.operation.proofs.Operations.{file_accepted}
use Rattle.cases.specs.SplitOrder.{in_order, lex_below, wider, cone_order}
use Rattle.cases.proofs.SplitOrder.{order_long, order_same}
use Rattle.split_order.specs.Sorting.{smaller, KeysMade, SortsBy}
use Rattle.split_order.specs.declared.key.Four.{Four}
use Rattle.split_order.specs.SplitOrder.{cone_order_made}

turned : (a b : ℕ) → a ≤ 1024 → b ≤ 1024 → ltb (1024 - a) (1024 - b) ≡ ltb b a
turned a b h l =
    cases (ltb b a)
    (λ t. lt-ltb (1024 - a) (1024 - b) (let m = ltb-true b a t in omega arith) ∙ sym t)
    (λ t. le-ltb (1024 - a) (1024 - b) (let m = ltb-false b a t in omega arith) ∙ sym t)

one_number : (a b : ℕ) → lex_below (a ∷ 0 ∷ 0 ∷ 0 ∷ []) (b ∷ 0 ∷ 0 ∷ 0 ∷ []) ≡ ltb a b
unfolding lex_below
one_number a b = cases (ltb a b) (λ t. rw t refl) (λ t. rw t (cases (eqb a b) (λ e. rw e refl) (λ e. rw e refl)))

-- The numbers of an input, by its cone.
abbrev pub ConeKey : List ℕ → ℕ → List ℕ → Type 0
ConeKey cones net numbers = numbers ≡ (1024 - get_or cones net 0) ∷ 0 ∷ 0 ∷ 0 ∷ []

pub cones_sort : (cones : List ℕ) (n : ℕ) (keys : List Four) → ((net : ℕ) → net < n → get_or cones net 0 ≤ 1024) → KeysMade (ConeKey cones) n keys
    → SortsBy (wider (λ net. get_or cones net 0)) n keys
unfolding smaller wider
cones_sort cones n keys low made = record {
  same = λ a b h l. rw (made.at a h, made.at b l)
      (one_number (1024 - get_or cones a 0) (1024 - get_or cones b 0) ∙ turned (get_or cones a 0) (get_or cones b 0) (low a h) (low b l));
}

-- No cone has more gates than there are nets.
pub cone_few : (file : File) (nets inputs net : ℕ) → AcceptedFile file nets inputs → cone_size file net ≤ 1024
unfolding cone_size
cone_few file nets inputs net accepted =
    let fed = in_turn (fed_from file net) (net_count file) in
    omega (arith, accepted.net_count_lem, accepted.few_nets, count_at_most (net_count file) (λ gate. get_or fed gate false))

-- The list by the numbers is the list by cone.
pub listed_by_cone : (cones : List ℕ) (keys : List Four) {file : File} {nets inputs : ℕ} {bytes : List ℕ} → AcceptedFile file nets inputs
    → ((net : ℕ) → net < inputs → get_or cones net 0 ≡ cone_size file net) → SortsBy (wider (λ net. get_or cones net 0)) inputs keys
    → bytes ≡ list_bytes (in_order (smaller keys) inputs) → bytes ≡ list_bytes (cone_order file)
unfolding cone_order wider
listed_by_cone cones keys {file} {nets} {inputs} accepted are sorts made =
    made
    ∙ ap list_bytes (order_same (smaller keys) (wider (cone_size file)) inputs (λ a b h l. sorts.same a b h l ∙ rw (are a h, are b l) refl))
    ∙ ap (λ n. list_bytes (in_order (wider (cone_size file)) n)) (sym accepted.input_count_lem)

pub cone_order_long : (file : File) → length (cone_order file) ≡ input_count file
unfolding cone_order
cone_order_long file = order_long (wider (cone_size file)) (input_count file)

-- What the first maker returns: the file is refused, or its list is made.

module _ (file : File) {read : Result Counts Refusal} (is : read ≡ read_of file) where
  pub cones_refused : {r : Refusal} → read ≡ Err r → Err r ≡ cone_order_made file
  unfolding read_of cone_order_made
  cones_refused {r} told =
      let v = refused_verdict file (verdict (read_checks file)) r (sym is ∙ told) in
      rw v refl

  pub cones_listed : {found : Counts} {bytes : List ℕ} → read ≡ Ok found → bytes ≡ list_bytes (cone_order file)
      → Ok (record { inputs = found.inputs; nets = bytes }) ≡ cone_order_made file
  unfolding read_of cone_order_made
  cones_listed {found} told listed =
      let v = (counts_of file (verdict (read_checks file)) found.nets found.inputs (sym is ∙ told)).0 in
      let n : found.inputs ≡ length (cone_order file) = sym (cone_order_long file ∙ (file_accepted is told).input_count_lem) in
      rw (v, n, listed) refl

-- What the answer says: a refusal is Read's, and a list is that of an accepted file.

told_refused : (file : File) (v : Verdict) (r : Refusal) → answer_after v (split_order (cone_order file)) ≡ Err r → answer_to file v ≡ Err r
told_refused file (Ok _) r e = absurd (let z : ◌≡◌ {A = ℕ} 0 1 = cc in omega arith)
told_refused file (Err s) r e = let z : s ≡ r = cc in ap Err z

told_list : (file : File) (v : Verdict) (made : SplitOrder) → answer_after v (split_order (cone_order file)) ≡ Ok made
    → (v ≡ Accepted) × (made ≡ split_order (cone_order file))
told_list file (Ok _) made e = let z : split_order (cone_order file) ≡ made = cc in (refl, sym z)
told_list file (Err s) made e = absurd (let z : ◌≡◌ {A = ℕ} 0 1 = cc in omega arith)

-- The first so many bytes are the list, which names at least one input and at most 64.
pub record ListMade (file : File) (n : ℕ) (bytes : List ℕ) : Type 0 where
  pub list : take n bytes ≡ cone_order file
  pub some : 1 ≤ n
  pub few : n ≤ 64
  pub room : n ≤ length bytes

module _ (file : File) {made : Result SplitOrder Refusal} (is : made ≡ cone_order_made file) where
  pub refused_by_read : {r : Refusal} → made ≡ Err r → read_of file ≡ Err r
  unfolding cone_order_made read_of
  refused_by_read {r} told = told_refused file (verdict (read_checks file)) r (sym is ∙ told)

  pub list_made : {list : SplitOrder} → made ≡ Ok list → ListMade file list.inputs list.nets
  unfolding cone_order_made read_of list_bytes
  list_made {list} told =
      let said = told_list file (verdict (read_checks file)) list (sym is ∙ told) in
      let n : list.inputs ≡ length (cone_order file) = ap (λ (m : SplitOrder). m.inputs) said.1 in
      let bytes : list.nets ≡ list_bytes (cone_order file) = ap (λ (m : SplitOrder). m.nets) said.1 in
      let whole = accepted file (net_count file) (input_count file) (ap (answer_to file) said.0) in
      let long = cone_order_long file in
      record {
        list = ap (take list.inputs) bytes ∙ take_at (cone_order file) _ list.inputs (sym n);
        some = omega (arith, n, long, whole.one_input);
        few = omega (arith, n, long, whole.few_inputs);
        room = omega (arith, n, ap length bytes, length-append (cone_order file) (replicate (64 - length (cone_order file)) 0));
      }
