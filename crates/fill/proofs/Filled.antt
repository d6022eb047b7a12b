-- Filled sets: filling only adds members, never outside an excitation's first and last run, leaves sets that have settled as they
-- are, and leaves no more runs than the hop limit.
-- Assumes nothing.
use Prim.Native.Nat.{ℕ, ◌≤◌, ◌<◌}
use mathlib.Core.Bool.{Bool, false}
use mathlib.Core.List.{List, [], ◌∷◌, map}
use mathlib.Core.Path.{◌≡◌, refl, sym, ap, ◌∙◌}
use native.Mathlib.Omega.{arith}
use lib.ListN.{length, get_or, length-map, get_or-map}
use Rattle.excitation.specs.Excitation.{l, h, hl, lh}
use Rattle.excitation.specs.UncertaintySet.{UncertaintySet, member, ◌∈◌, empty}
use Rattle.excitation.specs.declared.Excitation.{Excitation}
use Rattle.excitation.proofs.Finite.{for_each}
use Rattle.excitation.proofs.Sets.{set_is}
use Rattle.runs.specs.Runs.{runs}
use Rattle.fill.specs.Fill.{holding, fill_ticks, sets_holding, filled}
use Rattle.fill.proofs.Ticks.{length_fill, fill_adds, fill_not_before, fill_not_after, fill_kept, fill_few, fill_none, few_runs}

-- Sets and the ticks that hold each excitation.

length_holding : (e : Excitation) (xs : List UncertaintySet) → length (holding e xs) ≡ length xs
unfolding holding
length_holding e xs = length-map xs (member e)

none_in_empty : (e : Excitation) → member e empty ≡ false
unfolding member
none_in_empty = for_each (λ e. member e empty ≡ false) refl refl refl refl

holding_at : (e : Excitation) (xs : List UncertaintySet) (t : ℕ) → get_or (holding e xs) t false ≡ member e (get_or xs t empty)
unfolding holding
holding_at e xs t = ap (get_or (map (member e) xs) t) (sym (none_in_empty e)) ∙ get_or-map (member e) xs t empty

sets_of_holding : (xs : List UncertaintySet) → sets_holding (holding l xs) (holding h xs) (holding hl xs) (holding lh xs) ≡ xs
unfolding sets_holding holding member
sets_of_holding [] = refl
sets_of_holding (s ∷ later) = ap (λ rest. s ∷ rest) (sets_of_holding later)

record Holding (ls hs hls lhs : List Bool) (xs : List UncertaintySet) : Type 0 where
  long : length xs ≡ length ls
  of_l : holding l xs ≡ ls
  of_h : holding h xs ≡ hs
  of_hl : holding hl xs ≡ hls
  of_lh : holding lh xs ≡ lhs

holding_of_sets : (ls hs hls lhs : List Bool) → length hs ≡ length ls → length hls ≡ length ls → length lhs ≡ length ls
    → Holding ls hs hls lhs (sets_holding ls hs hls lhs)
unfolding sets_holding holding member
holding_of_sets [] [] [] [] p q r = record { long = refl; of_l = refl; of_h = refl; of_hl = refl; of_lh = refl }
holding_of_sets [] (b ∷ hs) hls lhs p q r = absurd (omega arith)
holding_of_sets [] [] (c ∷ hls) lhs p q r = absurd (omega arith)
holding_of_sets [] [] [] (d ∷ lhs) p q r = absurd (omega arith)
holding_of_sets (a ∷ ls) [] hls lhs p q r = absurd (omega arith)
holding_of_sets (a ∷ ls) (b ∷ hs) [] lhs p q r = absurd (omega arith)
holding_of_sets (a ∷ ls) (b ∷ hs) (c ∷ hls) [] p q r = absurd (omega arith)
holding_of_sets (a ∷ ls) (b ∷ hs) (c ∷ hls) (d ∷ lhs) p q r =
    let rest = holding_of_sets ls hs hls lhs (omega arith) (omega arith) (omega arith) in
    record {
      long = omega (arith, rest.long);
      of_l = ap (λ held. a ∷ held) rest.of_l;
      of_h = ap (λ held. b ∷ held) rest.of_h;
      of_hl = ap (λ held. c ∷ held) rest.of_hl;
      of_lh = ap (λ held. d ∷ held) rest.of_lh;
    }

module _ (hops : ℕ) (xs : List UncertaintySet) where
  abbrev filled_ticks : Excitation → List Bool
  filled_ticks e = fill_ticks hops (holding e xs)

  long : (e : Excitation) → length (filled_ticks e) ≡ length xs
  long e = length_fill hops (holding e xs) ∙ length_holding e xs

  as_long : (e : Excitation) → length (filled_ticks e) ≡ length (filled_ticks l)
  as_long e = long e ∙ sym (long l)

  holds : Holding (filled_ticks l) (filled_ticks h) (filled_ticks hl) (filled_ticks lh) (filled hops xs)
  unfolding filled
  holds = holding_of_sets (filled_ticks l) (filled_ticks h) (filled_ticks hl) (filled_ticks lh) (as_long h) (as_long hl) (as_long lh)

  pub filled_long : length (filled hops xs) ≡ length xs
  filled_long = holds.long ∙ long l

  -- Each excitation by itself.
  pub holding_filled : (e : Excitation) → holding e (filled hops xs) ≡ fill_ticks hops (holding e xs)
  holding_filled = for_each (λ e. holding e (filled hops xs) ≡ filled_ticks e) holds.of_l holds.of_h holds.of_hl holds.of_lh

  -- Sets that hold each excitation at the filled ticks are the filled sets.
  pub filled_is : (ys : List UncertaintySet) → ((e : Excitation) → holding e ys ≡ fill_ticks hops (holding e xs)) → ys ≡ filled hops xs
  unfolding filled
  filled_is ys same = sym (sets_of_holding ys) ∙ rw (same l, same h, same hl, same lh) refl

  filled_at : (e : Excitation) (t : ℕ) → member e (get_or (filled hops xs) t empty) ≡ get_or (filled_ticks e) t false
  filled_at e t = sym (holding_at e (filled hops xs) t) ∙ ap (λ held. get_or held t false) (holding_filled e)

module _ (hops : ℕ) (xs : List UncertaintySet) (long : length xs ≡ 256) where
  ticks : (e : Excitation) → length (holding e xs) ≡ 256
  ticks e = length_holding e xs ∙ long

  -- Filling only adds members.
  pub filled_adds : (e : Excitation) (t : ℕ) → e ∈ get_or xs t empty → e ∈ get_or (filled hops xs) t empty
  filled_adds e t m = filled_at hops xs e t ∙ fill_adds hops (holding e xs) (ticks e) t (holding_at e xs t ∙ m)

  -- It never goes outside an excitation's first and last run.

  pub filled_not_before : (e : Excitation) (first : ℕ) → ((t : ℕ) → t < first → member e (get_or xs t empty) ≡ false)
      → (t : ℕ) → t < first → member e (get_or (filled hops xs) t empty) ≡ false
  filled_not_before e first outside t before =
      filled_at hops xs e t ∙ fill_not_before hops (holding e xs) (ticks e) first (λ u k. holding_at e xs u ∙ outside u k) t before

  pub filled_not_after : (e : Excitation) (end : ℕ) → ((t : ℕ) → end ≤ t → member e (get_or xs t empty) ≡ false)
      → (t : ℕ) → end ≤ t → member e (get_or (filled hops xs) t empty) ≡ false
  filled_not_after e end outside t after =
      filled_at hops xs e t ∙ fill_not_after hops (holding e xs) (ticks e) end (λ u k. holding_at e xs u ∙ outside u k) t after

  -- Sets that are the same from tick s on stay as they are from there on.

  module _ (s : ℕ) (same : (t : ℕ) → s ≤ t → t < 256 → get_or xs t empty ≡ get_or xs s empty) where
    filled_kept : (t : ℕ) → s ≤ t → t < 256 → get_or (filled hops xs) t empty ≡ get_or xs t empty
    filled_kept t after within =
        set_is (get_or (filled hops xs) t empty) (get_or xs t empty)
        (λ e. filled_at hops xs e t
        ∙ fill_kept hops (holding e xs) (ticks e) s
        (λ u k low. holding_at e xs u ∙ ap (member e) (same u k low) ∙ sym (holding_at e xs s)) t after within
        ∙ holding_at e xs t)

    pub filled_settled : (t : ℕ) → s ≤ t → t < 256 → get_or (filled hops xs) t empty ≡ get_or (filled hops xs) s empty
    filled_settled t after within = filled_kept t after within ∙ same t after within ∙ sym (filled_kept s (omega arith) (omega arith))

  -- The set at the last tick stays.
  pub filled_last : get_or (filled hops xs) 255 empty ≡ get_or xs 255 empty
  filled_last = filled_kept 255 (λ t after within. ap (λ u. get_or xs u empty) (omega arith)) 255 (omega arith) (omega arith)

  -- Where no excitation has more runs than the hop limit, nothing is filled.
  pub filled_same : ((e : Excitation) → length (runs (holding e xs)) ≤ hops) → filled hops xs ≡ xs
  filled_same few = sym (filled_is hops xs xs (λ e. sym (fill_none hops (holding e xs) (ticks e) (few e))))

pub filled_few : (hops : ℕ) (xs : List UncertaintySet) → 1 ≤ hops → length xs ≡ 256 → (e : Excitation)
    → length (runs (holding e (filled hops xs))) ≤ hops
filled_few hops xs some long e = rw (holding_filled hops xs e) (fill_few hops (holding e xs) (length_holding e xs ∙ long) some)

-- 256 ticks have at most 128 runs.
pub filled_none : (hops : ℕ) (xs : List UncertaintySet) → 128 ≤ hops → length xs ≡ 256 → filled hops xs ≡ xs
filled_none hops xs many long =
    filled_same hops xs long (λ e. omega (arith, few_runs (holding e xs) (length_holding e xs ∙ long)))
