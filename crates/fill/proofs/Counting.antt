-- The ticks of a net at which a run of some excitation begins, counted a part at a time. No excitation has more runs.
-- Assumes nothing.
use Prim.Native.Nat.{ℕ, ◌+◌, ◌*◌, ◌^◌, ◌≤◌, ◌<◌, min}
use mathlib.Core.Bool.{Bool, true}
use mathlib.Core.List.{List}
use mathlib.Core.Path.{◌≡◌, ap, subst, ◌∙◌}
use native.Mathlib.Omega.{arith}
use lib.Count.{ones, ones-le}
use lib.ListN.{length}
use Rattle.laws.specs.Below.{count_below}
use Rattle.laws.specs.Settled.{SettledAfter}
use Rattle.laws.proofs.Below.{count_append, count_implied}
use Rattle.laws.proofs.Tests.{or_first, or_second}
use Rattle.bits.specs.Bits.{bit_at}
use Rattle.bits.proofs.Bits.{bit_zero}
use Rattle.excitation.specs.UncertaintySet.{member}
use Rattle.excitation.specs.declared.Excitation.{Excitation}
use Rattle.excitation.proofs.Finite.{for_each}
use Rattle.parts.specs.Parts.{has_some, set_at}
use Rattle.parts.specs.declared.Part.{Part}
use Rattle.rows.specs.Rows.{set_in}
use Rattle.runs.specs.Runs.{runs}
use Rattle.runs.proofs.Begins.{ones_count, starts_at, begins_at, StartsOf, LastBit, last_bit, begins_in_word, settled_count}
use Rattle.fill.specs.Filling.{held_in}

module _ (work : List ℕ) (net : ℕ) where
  abbrev holds : Excitation → ℕ → Bool
  holds e t = member e (set_in work net t)

  -- The ticks of the first parts at which a run of some excitation begins were counted, and the last set of these parts stands before
  -- the next.
  pub record StartsCounted (part count : ℕ) (before : Part) : Type 0 where
    pub few : count ≤ 64 * part
    pub begun : (e : Excitation) → count_below (64 * part) (begins_at (holds e)) ≤ count
    pub last : (e : Excitation) → LastBit (holds e) part (member e (set_at before 63))

  pub starts_none : StartsCounted 0 0 (record { l = 0; h = 0; hl = 0; lh = 0 })
  unfolding count_below member set_at
  starts_none = record {
    few = omega arith;
    begun = λ e. omega arith;
    last = for_each (λ e. LastBit (holds e) 0 (member e (set_at (record { l = 0; h = 0; hl = 0; lh = 0 }) 63))) (bit_zero 63) (bit_zero 63)
        (bit_zero 63) (bit_zero 63);
  }

  -- One part more, of which the ticks are known at which a run of some excitation begins.
  module _ (part count : ℕ) (before here starts : Part) (begun : ℕ) (so_far : StartsCounted part count before)
      (sets : (k : ℕ) → k < 64 → set_at here k ≡ set_in work net (64 * part + k))
      (of_l : StartsOf here.l before.l starts.l) (of_h : StartsOf here.h before.h starts.h)
      (of_hl : StartsOf here.hl before.hl starts.hl) (of_lh : StartsOf here.lh before.lh starts.lh)
      (all_bit : (k : ℕ) → bit_at begun k ≡ has_some (set_at starts k)) (fits : begun < 2 ^ 64) where
    abbrev starts_in : Excitation → ℕ → Bool
    starts_in e = starts_at (λ k. member e (set_at here k)) (member e (set_at before 63))

    -- Where a run of an excitation begins the bit is set.
    start_set : (e : Excitation) (k : ℕ) → k < 64 → starts_in e k ≡ true → bit_at begun k ≡ true
    unfolding member set_at
    start_set e k low =
        for_each (λ e. starts_in e k ≡ true → bit_at begun k ≡ true)
        (λ t. all_bit k ∙ or_first _ (or_first _ (or_first _ (of_l k low ∙ t))))
        (λ t. all_bit k ∙ or_first _ (or_first _ (or_second _ (of_h k low ∙ t))))
        (λ t. all_bit k ∙ or_first _ (or_second _ (of_hl k low ∙ t)))
        (λ t. all_bit k ∙ or_second _ (of_lh k low ∙ t))
        e

    here_holds : (e : Excitation) (k : ℕ) → k < 64 → member e (set_at here k) ≡ holds e (64 * part + k)
    here_holds e k low = ap (member e) (sets k low)

    more : (e : Excitation) → count_below 64 (λ k. begins_at (holds e) (64 * part + k)) ≤ count_below 64 (bit_at begun)
    more e =
        count_implied 64 (λ k. begins_at (holds e) (64 * part + k)) (bit_at begun)
        (λ k low t. start_set e k low
        (begins_in_word (holds e) part (λ k. member e (set_at here k)) (here_holds e) (member e (set_at before 63)) (so_far.last e) k low ∙ t))

    pub starts_more : StartsCounted (part + 1) (count + ones begun) here
    starts_more =
        let set = ones_count 64 begun fits in
        record {
          few = omega (arith, so_far.few, ones-le 64 begun fits);
          begun = λ e.
              let next : 64 * part + 64 ≡ 64 * (part + 1) = omega arith in
              subst (λ n. count_below n (begins_at (holds e)) ≤ count + ones begun) next
              (omega (arith, count_append (64 * part) 64 (begins_at (holds e)), so_far.begun e, more e));
          last = λ e. last_bit (holds e) part (λ k. member e (set_at here k)) (here_holds e);
        }

  pub starts_all : (last part count : ℕ) (before : Part) → StartsCounted part count before → SettledAfter last (set_in work net)
      → min (last + 2) 256 ≤ 64 * part → part ≤ 4 → (e : Excitation) → length (runs (held_in e work net)) ≤ count
  starts_all last part count before so_far settled low high e =
      let steady : SettledAfter last (holds e) = record { same = λ t late early. ap (member e) (settled.same t late early) } in
      omega (arith, so_far.begun e, settled_count (holds e) last steady (64 * part) low (omega arith))
