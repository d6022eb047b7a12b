-- Laws of inputs tried: one child more, and the numbers of the inputs sort as the second maker asks.
-- Assumes nothing.
use Prim.Native.Nat.{ℕ, zero, suc, ◌+◌, ◌≤◌, ◌<◌, max, min}
use mathlib.Core.Bool.{Bool, true, false, not, ◌&&◌, ◌||◌, false≢true}
use mathlib.Core.List.{List, [], ◌∷◌, map, map-append}
use mathlib.Core.Path.{◌≡◌, refl, ap, sym, subst, ◌∙◌}
use native.Mathlib.Numerals.{add-one}
use native.Mathlib.Omega.{arith}
use lib.ListN.{length, get_or, set, take, length-map}
use borrow.Table.Steps.{cases}
use Rattle.std.specs.List.{count_by}
use Rattle.std.proofs.lemmas.List.Sums.{count_by_more_yes, count_by_more_no}
use Rattle.laws.specs.Below.{count_below}
use Rattle.laws.proofs.Below.{count_two}
use Rattle.laws.proofs.Tests.{refuted, confirmed}
use Rattle.excitation.specs.Excitation.{excitation_of}
use Rattle.excitation.specs.UncertaintySet.{member, empty, decode, single, sets_in}
use Rattle.excitation.specs.declared.Excitation.{Excitation}
use Rattle.excitation.proofs.Codes.{set_at}
use Rattle.block.specs.Limits.{drop_limit}
use Rattle.cases.specs.Case.{Case, undecided, evaluation_of, children_below, members_below}
use Rattle.cases.specs.Records.{child_codes}
use Rattle.cases.specs.Search.{made_under}
use Rattle.cases.specs.SplitOrder.{put_falling, falling_with, four, lex_below, child_upper, tried_uppers, tighter}
use Rattle.cases.proofs.Children.{child_sets, children_more, children_same, children_few}
use Rattle.cases.proofs.Fours.{four_more}
use Rattle.split_order.specs.Sorting.{four_of, four_at, smaller, KeysMade, SortsBy}
use Rattle.split_order.specs.Trying.{decided_key, UntriedKey, uppers_below, ChildrenTried, InputTried, tighter_by}
use Rattle.split_order.specs.declared.key.Four.{Four}
use Rattle.split_order.proofs.Keys.{lex_same, lex_ahead, lex_behind}

-- The undecided inputs counted, by their codes and by their numbers.
pub counted_below : (p : ℕ → Bool) (codes : List ℕ) (n : ℕ) → n ≤ length codes → count_by p (take n codes) ≡ count_below n (λ net. p (get_or codes net 0))
unfolding count_below
counted_below p codes zero h = refl
counted_below p codes (suc n) h =
    let so_far = counted_below p codes n (omega arith) in
    cases (p (get_or codes n 0))
    (λ t. let more = rw add-one at (count_by_more_yes p codes n 0 (omega arith) t) in rw t (omega (arith, more, so_far)))
    (λ t. let same = rw add-one at (count_by_more_no p codes n 0 (omega arith) t) in rw t (omega (arith, same, so_far)))

-- One child more

module _ (simulated : List Excitation → ℕ) (bound : Case → ℕ) (inputs : ℕ) (codes : List ℕ) (input : ℕ) where
  abbrev frame : Case
  frame = sets_in inputs codes

  abbrev upper : Case → ℕ
  upper = child_upper simulated bound frame

  -- The upper number before the cap of the case with these codes.
  abbrev own_at : List ℕ → ℕ
  own_at bytes = evaluation_of simulated bound (sets_in inputs bytes)

  pub tried_none : ChildrenTried simulated bound inputs codes input 0 (record { first = 0; second = 0; third = 0; fourth = 0 })
  unfolding children_below members_below four falling_with
  tried_none = record { is = refl; low = omega arith }

  module _ (inside : input < inputs) (e : ℕ) {x : Excitation} {allowed : Bool} (is : x ≡ excitation_of e)
      (tested : allowed ≡ member x (decode (get_or codes input 0))) {tried : Four} (so_far : ChildrenTried simulated bound inputs codes input e tried) where
    allowed_is : allowed ≡ member (excitation_of e) (get_or frame input empty)
    allowed_is = tested ∙ rw (is, set_at inputs codes input empty inside) refl

    pub tried_skipped : not allowed ≡ true → ChildrenTried simulated bound inputs codes input (e + 1) tried
    tried_skipped h = record {
      is = so_far.is ∙ ap (λ new. four (map upper new)) (sym (children_same e input frame (refuted allowed_is h)));
      low = so_far.low;
    }

    pub tried_more : inputs ≤ 64 → length codes ≡ 64 → e < 4 → not allowed ≡ false → {child : List ℕ} {cap own number : ℕ} {after : Four}
        → child ≡ child_codes codes input x → cap ≡ own_at codes → own ≡ own_at child → own < drop_limit
        → number ≡ min cap own → four_of after ≡ take 4 (put_falling number (four_of tried))
        → ChildrenTried simulated bound inputs codes input (e + 1) after
    unfolding child_upper made_under put_falling
    tried_more few long below h {child} {cap} {own} {number} {after} coded capped evaluated low least put =
        let new = children_below e input frame in
        let more = children_more e input frame (confirmed allowed_is h) in
        let sets : sets_in inputs child ≡ set frame input (single (excitation_of e)) =
        ap (sets_in inputs) coded ∙ child_sets inputs few codes long input inside x
        ∙ ap (λ y. set frame input (single y)) is in
        let number_is : number ≡ upper (set frame input (single (excitation_of e))) =
        least ∙ ap (λ n. min n own) capped
        ∙ ap (min (evaluation_of simulated bound frame)) (evaluated ∙ ap (evaluation_of simulated bound) sets) in
        let fewer : length (map upper new) < 4 = omega (arith, length-map new upper, children_few e input frame) in
        let first : after.first ≡ max number tried.first = ap (λ xs. get_or xs 0 0) put in
        record {
          is = put
              ∙ ap (λ xs. take 4 (put_falling number xs)) so_far.is
              ∙ ap (λ n. take 4 (put_falling n (four (map upper new)))) number_is
              ∙ sym (ap (λ all. four (map upper all)) more
              ∙ ap four (map-append upper new (set frame input (single (excitation_of e)) ∷ []))
              ∙ four_more (map upper new) (upper (set frame input (single (excitation_of e)))) fewer);
          low = omega (arith, first, least, low, so_far.low);
        }

  -- The four numbers of an input that is tried, and of one that is not.

  pub tried_key : {e : ℕ} {tried : Four} → e ≡ 4 → {test : Bool} → test ≡ undecided (decode (get_or codes input 0)) → not test ≡ false
      → ChildrenTried simulated bound inputs codes input e tried → InputTried simulated bound inputs codes input (four_of tried)
  unfolding tried_uppers
  tried_key {e} {tried} end test h all = record {
    undecided_is = λ u. (subst (λ n. four_of tried ≡ four (uppers_below simulated bound inputs codes input n)) end all.is, all.low);
    decided_is = λ u. absurd (let yes = confirmed test h in false≢true (sym u ∙ yes));
  }

  pub decided_key_lem : {test : Bool} → test ≡ undecided (decode (get_or codes input 0)) → not test ≡ true
      → InputTried simulated bound inputs codes input decided_key
  decided_key_lem test h = record {
    undecided_is = λ u. absurd (let no = refuted test h in false≢true (sym no ∙ u));
    decided_is = λ u. refl;
  }

-- What the numbers sort by

module _ (simulated : List Excitation → ℕ) (bound : Case → ℕ) (inputs : ℕ) (codes : List ℕ) where
  abbrev undecided_at : ℕ → Bool
  undecided_at net = undecided (decode (get_or codes net 0))

  abbrev tried_at : ℕ → List ℕ
  tried_at = tried_uppers simulated bound (sets_in inputs codes)

  tighter_is : (a b : ℕ) → a < inputs → b < inputs
      → tighter_by simulated bound inputs codes a b ≡ (undecided_at a && (not (undecided_at b) || lex_below (tried_at a) (tried_at b)))
  unfolding tighter
  tighter_is a b h l = rw (set_at inputs codes a empty h, set_at inputs codes b empty l) refl

  -- Numbers that are the decided inputs' for those, and smaller for the others, sort as asked where they sort the undecided so.
  module _ (keys : List Four) (decided_is : (net : ℕ) → net < inputs → undecided_at net ≡ false → four_at keys net ≡ decided_key)
      (low : (net : ℕ) → net < inputs → undecided_at net ≡ true → get_or (four_at keys net) 0 0 < drop_limit)
      (both : (a b : ℕ) → a < inputs → b < inputs → undecided_at a ≡ true → undecided_at b ≡ true
      → smaller keys a b ≡ lex_below (tried_at a) (tried_at b)) where
    decided_last : (a b : ℕ) → a < inputs → b < inputs → undecided_at a ≡ false → smaller keys a b ≡ false
    unfolding smaller four_at
    decided_last a b h l d =
        cases (undecided_at b)
        (λ u. rw (decided_is a h d) (lex_behind _ _ _ _ (let m = low b l u in omega arith)))
        (λ u. rw (decided_is a h d, decided_is b l u) (lex_same decided_key))

    undecided_first : (a b : ℕ) → a < inputs → b < inputs → undecided_at a ≡ true → undecided_at b ≡ false → smaller keys a b ≡ true
    unfolding smaller four_at
    undecided_first a b h l u d = rw (decided_is b l d) (lex_ahead _ _ _ _ (let m = low a h u in omega arith))

    sorts_so : (a b : ℕ) → a < inputs → b < inputs → smaller keys a b ≡ tighter_by simulated bound inputs codes a b
    sorts_so a b h l =
        cases (undecided_at a)
        (λ u. cases (undecided_at b)
        (λ v. both a b h l u v ∙ sym (tighter_is a b h l ∙ rw (u, v) refl))
        (λ v. undecided_first a b h l u v ∙ sym (tighter_is a b h l ∙ rw (u, v) refl)))
        (λ u. decided_last a b h l u ∙ sym (tighter_is a b h l ∙ rw u refl))

  pub tried_sorts : (keys : List Four) → KeysMade (InputTried simulated bound inputs codes) inputs keys
      → SortsBy (tighter_by simulated bound inputs codes) inputs keys
  unfolding four_at smaller
  tried_sorts keys made = record {
    same = sorts_so keys
        (λ net h d. (made.at net h).decided_is d)
        (λ net h u. ((made.at net h).undecided_is u).1)
        (λ a b h l u v. rw (((made.at a h).undecided_is u).0, ((made.at b l).undecided_is v).0) refl);
  }

  -- Where fewer than two inputs are undecided, none has to be tried: two undecided ones are the same.
  pub untried_sorts : (keys : List Four) {count : ℕ} → count ≡ count_below inputs undecided_at → count < 2
      → KeysMade (UntriedKey codes) inputs keys → SortsBy (tighter_by simulated bound inputs codes) inputs keys
  unfolding four_at smaller
  untried_sorts keys counted few made = record {
    same = sorts_so keys
        (λ net h d. (made.at net h).decided_is d)
        (λ net h u. let zero_first : get_or (four_at keys net) 0 0 ≡ 0 = ap (λ xs. get_or xs 0 0) ((made.at net h).undecided_is u) in omega arith)
        (λ a b h l u v.
        let same : a ≡ b = count_two inputs undecided_at a b h l u v (omega (arith, counted)) in
        rw same (lex_same (four_at keys b) ∙ sym (lex_same (tried_at b))));
  }
