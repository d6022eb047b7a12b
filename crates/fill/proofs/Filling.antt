-- Filling as the code does it: the gaps of a row one after another, the excitations one after another. It comes to the filled sets.
-- Assumes nothing.
use Prim.Native.Nat.{ℕ, suc, ◌+◌, ◌/◌, ◌≤◌, ◌<◌}
use mathlib.Core.Bool.{false, cond, ◌||◌}
use mathlib.Core.List.{List}
use mathlib.Core.Path.{◌≡◌, refl, sym, subst, ap, ◌∙◌}
use native.Mathlib.Omega.{arith}
use lib.Dec.{ltb}
use lib.ListN.{length, get_or, get_or-eq_default}
use borrow.Author.Tests.{ltb-true, ltb-false}
use borrow.Table.Steps.{cases}
use Rattle.laws.specs.Settled.{SettledAfter}
use Rattle.laws.proofs.Turn.{list_at, list_long, list_same, list_map}
use Rattle.excitation.specs.Excitation.{l, h, hl, lh, same}
use Rattle.excitation.specs.UncertaintySet.{member}
use Rattle.excitation.specs.declared.Excitation.{Excitation}
use Rattle.excitation.proofs.Finite.{for_each}
use Rattle.excitation.proofs.Sets.{same_self, same_gives, set_is}
use Rattle.bits.specs.Bits.{row_bit}
use Rattle.rows.specs.Rows.{set_in, RowRead, RowWritten}
use Rattle.runs.specs.Rows.{ticks_in, runs_in, RangeSet}
use Rattle.runs.specs.Runs.{runs, inside}
use Rattle.runs.proofs.Runs.{Apart, inside_after, inside_runs, runs_are}
use Rattle.runs.proofs.Begins.{settled_few}
use Rattle.fill.specs.Fill.{holding, fill_ticks}
use Rattle.fill.specs.Filling.{shortest_gap, GapFilled, RowFilled, sets_in, held_in, SetsChanged, OneFilled, Filled}
use Rattle.fill.specs.Gaps.{gap, close_shortest, merged}
use Rattle.fill.proofs.Filled.{filled_is, filled_same}
use Rattle.fill.proofs.Gaps.{in_gap, Closed, closed_length, closed_apart, gap_before, inside_closed, closes}
use Rattle.fill.proofs.Merged.{merged_done, merged_step}
use Rattle.fill.proofs.Ticks.{all_apart, fill_is, fill_none, fill_kept}

-- The gaps of a row, one after another.

row_apart : (row : List ℕ) → Apart 0 256 (runs_in row)
row_apart row = all_apart (ticks_in row) (list_long 256 (row_bit row))

-- The shortest gap of a row that has several runs.
module _ (start size : ℕ) (given : List ℕ) (two : 2 ≤ length (runs_in given)) (shortest : gap start size ≡ shortest_gap (runs_in given)) where
  closing : Closed (gap start size) (runs_in given) (close_shortest (runs_in given))
  closing = subst (λ g. Closed g (runs_in given) (close_shortest (runs_in given))) (sym shortest) (closes (row_apart given) two)

  pub gap_fits : start + size ≤ 256
  gap_fits = omega (arith, gap_before (row_apart given) closing)

  module _ (after : List ℕ) (p : RangeSet start (start + size) given after) where
    apart_after : Apart 0 256 (close_shortest (runs_in given))
    apart_after = closed_apart (row_apart given) closing

    tick_after : (t : ℕ) → get_or (ticks_in after) t false ≡ inside t (close_shortest (runs_in given))
    unfolding in_gap
    tick_after t =
        cases (ltb t 256)
        (λ e. let low = ltb-true t 256 e in
        list_at 256 (row_bit after) t false low
        ∙ p.ticks t low
        ∙ ap (λ b. b || in_gap start size t) (sym (inside_runs t (ticks_in given) ∙ list_at 256 (row_bit given) t false low))
        ∙ sym (inside_closed t (row_apart given) closing))
        (λ e. let past = ltb-false t 256 e in
        get_or-eq_default (ticks_in after) false (omega (arith, list_long 256 (row_bit after))) ∙ sym (inside_after t apart_after past))

    pub gap_filled : length given ≡ 4 → GapFilled given after
    gap_filled four = record {
      long = p.long ∙ four;
      closed = runs_are (ticks_in after)
          (subst (λ end. Apart 0 end (close_shortest (runs_in given))) (sym (list_long 256 (row_bit after))) apart_after)
          tick_after;
    }

-- Gaps of a row were filled, and filling the rest comes to what filling all of them does.
pub record Filling (hops : ℕ) (given after : List ℕ) : Type 0 where
  pub long : length after ≡ 4
  pub merge : merged hops (runs_in after) ≡ merged hops (runs_in given)

module _ (hops : ℕ) (given : List ℕ) where
  pub filling_none : length given ≡ 4 → Filling hops given given
  filling_none four = record { long = four; merge = refl }

  module _ (row : List ℕ) (so_far : Filling hops given row) where
    module _ (after : List ℕ) (some : 1 ≤ hops) (many : hops < length (runs_in row)) (one : GapFilled row after) where
      pub filling_more : Filling hops given after
      filling_more = record {
        long = one.long;
        merge = ap (merged hops) one.closed ∙ sym (merged_step hops (runs_in row) some (row_apart row) many) ∙ so_far.merge;
      }

      pub one_fewer : length (runs_in row) ≡ suc (length (runs_in after))
      one_fewer = closed_length (closes (row_apart row) (omega arith)) ∙ ap (λ rs. suc (length rs)) (sym one.closed)

    pub filling_done : length (runs_in row) ≤ hops → RowFilled hops given row
    filling_done few = record {
      long = so_far.long;
      ticks = fill_is hops (ticks_in given) (list_long 256 (row_bit given)) (ticks_in row) (list_long 256 (row_bit row))
          (sym (merged_done hops (runs_in row) few) ∙ so_far.merge);
    }

-- One excitation of a net.

changed_none : (net : ℕ) (work : List ℕ) → SetsChanged net work work
changed_none net work = record { long = refl; rest = λ j outside. refl }

changed_more : {net : ℕ} {given now after : List ℕ} → SetsChanged net given now → SetsChanged net now after → SetsChanged net given after
changed_more p q = record { long = q.long ∙ p.long; rest = λ j outside. q.rest j outside ∙ p.rest j outside }

held_long : (e : Excitation) (work : List ℕ) (net : ℕ) → length (held_in e work net) ≡ 256
held_long e work net = list_long 256 (λ t. member e (set_in work net t))

held_at : (e : Excitation) (work : List ℕ) (net t : ℕ) → t < 256 → get_or (held_in e work net) t false ≡ member e (set_in work net t)
held_at e work net t low = list_at 256 (λ t. member e (set_in work net t)) t false low

module _ (e : Excitation) (net : ℕ) (given row : List ℕ) (read : RowRead e net given row)
    (last : ℕ) (settled : SettledAfter last (set_in given net)) where
  row_held : ticks_in row ≡ held_in e given net
  row_held = list_same 256 (row_bit row) (λ t. member e (set_in given net t)) false read.ticks

  pub row_settled : SettledAfter last (row_bit row)
  row_settled = record {
    same = λ t late low. read.ticks t low ∙ ap (member e) (settled.same t late low) ∙ sym (read.ticks 255 (omega arith));
  }

  module _ (hops : ℕ) where
    -- Nothing is to be filled where the runs do not exceed the hop limit.
    pub one_kept : length (runs_in row) ≤ hops → OneFilled hops last e net given given
    one_kept few = record {
      only = changed_none net given;
      settled = settled;
      others = λ f other. refl;
      ticks = sym (fill_none hops (held_in e given net) (held_long e given net) (subst (λ held. length (runs held) ≤ hops) row_held few));
    }

    module _ (full after : List ℕ) (fills : RowFilled hops row full) (writes : RowWritten e net full given after) where
      filled_held : held_in e after net ≡ fill_ticks hops (held_in e given net)
      filled_held =
          list_same 256 (λ t. member e (set_in after net t)) (row_bit full) false
          (λ t low. writes.ticks e t low ∙ ap (λ b. cond b (row_bit full t) (member e (set_in given net t))) (same_self e))
          ∙ fills.ticks
          ∙ ap (fill_ticks hops) row_held

      other_kept : (f : Excitation) → same f e ≡ false → (t : ℕ) → t < 256 → member f (set_in after net t) ≡ member f (set_in given net t)
      other_kept f other t low = writes.ticks f t low ∙ ap (λ b. cond b (row_bit full t) (member f (set_in given net t))) other

      -- After tick `last` the sets stay as they are.
      set_kept : (t : ℕ) → last < t → t < 256 → set_in after net t ≡ set_in given net t
      set_kept t late low =
          set_is (set_in after net t) (set_in given net t)
          (λ f. cases (same f e) (λ is. rw (same_gives f e is) this) (λ other. other_kept f other t low))
        where
          steady : (u : ℕ) → last + 1 ≤ u → u < 256 → get_or (held_in e given net) u false ≡ member e (set_in given net 255)
          steady u after within = held_at e given net u within ∙ ap (member e) (settled.same u (omega arith) within)

          this : member e (set_in after net t) ≡ member e (set_in given net t)
          this =
              sym (held_at e after net t low)
              ∙ ap (λ held. get_or held t false) filled_held
              ∙ fill_kept hops (held_in e given net) (held_long e given net) (last + 1)
              (λ u a b. steady u a b ∙ sym (steady (last + 1) (omega arith) (omega arith))) t (omega arith) low
              ∙ held_at e given net t low

      pub one_filled : OneFilled hops last e net given after
      one_filled = record {
        only = record { long = writes.long; rest = writes.rest };
        settled = record {
          same = λ t late low.
              set_kept t late low ∙ settled.same t late low ∙ sym (set_kept 255 (omega arith) (omega arith));
        };
        others = λ f other. list_same 256 (λ t. member f (set_in after net t)) (λ t. member f (set_in given net t)) false (other_kept f other);
        ticks = filled_held;
      }

-- The excitations, one after another.

holding_sets : (e : Excitation) (work : List ℕ) (net : ℕ) → holding e (sets_in work net) ≡ held_in e work net
unfolding holding
holding_sets e work net = list_map (member e) 256 (set_in work net)

pub all_filled : {hops last net : ℕ} {given a b c after : List ℕ}
    → OneFilled hops last l net given a → OneFilled hops last h net a b → OneFilled hops last hl net b c → OneFilled hops last lh net c after
    → Filled hops last net given after
all_filled {hops} {last} {net} {given} {a} {b} {c} {after} of_l of_h of_hl of_lh = record {
  only = changed_more (changed_more (changed_more of_l.only of_h.only) of_hl.only) of_lh.only;
  settled = of_lh.settled;
  sets = filled_is hops (sets_in given net) (sets_in after net)
      (λ e. holding_sets e after net ∙ each e ∙ ap (fill_ticks hops) (sym (holding_sets e given net)));
}
  where
    each : (e : Excitation) → held_in e after net ≡ fill_ticks hops (held_in e given net)
    each =
        for_each (λ e. held_in e after net ≡ fill_ticks hops (held_in e given net))
        (of_lh.others l refl ∙ of_hl.others l refl ∙ of_h.others l refl ∙ of_l.ticks)
        (of_lh.others h refl ∙ of_hl.others h refl ∙ of_h.ticks ∙ ap (fill_ticks hops) (of_l.others h refl))
        (of_lh.others hl refl ∙ of_hl.ticks ∙ ap (fill_ticks hops) (of_h.others hl refl ∙ of_l.others hl refl))
        (of_lh.ticks ∙ ap (fill_ticks hops) (of_hl.others lh refl ∙ of_h.others lh refl ∙ of_l.others lh refl))

-- Where no excitation has more runs than the hop limit, nothing is to be filled.
pub few_filled : (hops last net : ℕ) (work : List ℕ) → SettledAfter last (set_in work net)
    → ((e : Excitation) → length (runs (held_in e work net)) ≤ hops) → Filled hops last net work work
few_filled hops last net work settled few = record {
  only = changed_none net work;
  settled = settled;
  sets = sym (filled_same hops (sets_in work net) (list_long 256 (set_in work net))
      (λ e. subst (λ held. length (runs held) ≤ hops) (sym (holding_sets e work net)) (few e)));
}

-- Sets that are the same after an early tick have few runs.
pub early_few : (hops last net : ℕ) (work : List ℕ) → last < 256 → (last + 1) / 2 < hops → SettledAfter last (set_in work net)
    → (e : Excitation) → length (runs (held_in e work net)) ≤ hops
early_few hops last net work in_time early settled e =
    let steady : SettledAfter last (λ t. member e (set_in work net t)) =
    record { same = λ t late low. ap (member e) (settled.same t late low) } in
    omega (arith, settled_few (λ t. member e (set_in work net t)) last steady in_time)
