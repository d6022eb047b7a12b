-- Laws of the drop, and of the sums by which the code takes it.
-- Assumes nothing.
use Rattle.std.proofs.Common.{◌≡◌, ℕ, ◌+◌, ◌-◌, ◌*◌, ◌/◌, ◌<◌, ◌≤◌, max, List, length, get_or, replicate, sym, refl, ap, ◌∙◌, inr, mul-le-mul_right, mul-le-mul_left, arith}
use Rattle.laws.specs.Below.{max_below, sum_below}
use Rattle.laws.specs.Rewritten.{Rewritten}
use Rattle.laws.proofs.Below.{max_next, max_at, max_same, max_at_most, max_within, max_beyond, max_swap, sum_next, sum_same, sum_at_most, sum_within}
use Rattle.laws.proofs.Lists.{replicate_at}
use Rattle.laws.proofs.Rewritten.{rewritten_first}
use Rattle.block.specs.Limits.{resistance_limit, drop_limit}
use Rattle.sheet.specs.Sheet.{Sheet, drop_at, drop_of, sheet_in}
use Rattle.sheet.specs.Sums.{Droppable, most_resistance, bound_at, tick_drop, TickFits, with_contact, SumsFit}
use Rattle.sheet.proofs.Totals.{drop_part, drop_part_lem}

-- A greater sheet drops no less, and sheets that agree drop the same.

pub drop_at_most : (table : List ℕ) (s s' : Sheet) → ((c t : ℕ) → s c t ≤ s' c t) → drop_of table s ≤ drop_of table s'
unfolding drop_of drop_at
drop_at_most table s s' less =
    max_at_most _ _ _ (λ node _. max_at_most 512 _ _ (λ t _. sum_at_most 16 _ _ (λ c _. mul-le-mul_left (get_or table (16 * node + c) 0) (less c t))))

pub drop_same : (table : List ℕ) (s s' : Sheet) → ((c t : ℕ) → c < 16 → t < 512 → s c t ≡ s' c t) → drop_of table s ≡ drop_of table s'
unfolding drop_of drop_at
drop_same table s s' same =
    max_same _ _ _ (λ node _. max_same 512 _ _ (λ t h. sum_same 16 _ _ (λ c l. ap (λ x. get_or table (16 * node + c) 0 * x) (same c t l h))))

-- The drop tick by tick. Ticks without current drop nothing.
pub drop_until : (table : List ℕ) {words : List ℕ} {stop : ℕ} → Droppable stop words
    → drop_of table (sheet_in words) ≡ max_below stop (tick_drop table (sheet_in words))
unfolding drop_of drop_at tick_drop
drop_until table {words} {stop} droppable =
    max_swap (length table / 16) 512 (drop_at table (sheet_in words))
    ∙ max_beyond 512 stop _ droppable.quiet.ticks
    (λ t low high.
    let nothing = max_within (length table / 16) (λ node. drop_at table (sheet_in words) node t) 0
    (λ node _. sum_within 16 _ 0 (λ c h. rw (droppable.quiet.rows c t h low high) (omega arith))) in
    omega arith)

-- No node drops more at a tick than the tick's bound.
pub tick_bounded : (table : List ℕ) (s : Sheet) (t : ℕ) → tick_drop table s t ≤ bound_at table s t
unfolding tick_drop drop_at bound_at most_resistance
tick_bounded table s t =
    max_within _ _ _
    (λ node h. sum_at_most 16 _ _ (λ c _. mul-le-mul_right (s c t) (max_at (length table / 16) (λ n. get_or table (16 * n + c) 0) node h)))

-- The bounds, contact by contact.

pub to_contact : (resistance : ℕ) (words : List ℕ) (start : ℕ) {t current : ℕ} {sums sums' : List ℕ}
    → Rewritten (with_contact sums resistance words start) 0 t sums sums' → current ≡ get_or words (start + t) 0
    → get_or sums' t 0 + resistance * current ≡ with_contact sums resistance words start t
unfolding with_contact
to_contact resistance words start {t = t} written e = rw (e, written.rest t (inr (omega arith))) refl

pub contact_fits : {resistance start stop t current : ℕ} {words sums sums' : List ℕ} → SumsFit sums resistance words start stop → t < stop
    → Rewritten (with_contact sums resistance words start) 0 t sums sums' → current ≡ get_or words (start + t) 0
    → get_or sums' t 0 + resistance * current < drop_limit
contact_fits {resistance} {start} {t = t} {words = words} fits h written e =
    omega (arith, to_contact resistance words start written e, fits.small t h)

-- The greatest resistance is below the limit, as each is.
most_resistance_below : (table : List ℕ) → ((i : ℕ) → get_or table i 0 < resistance_limit) → (c : ℕ) → most_resistance table c < resistance_limit
unfolding most_resistance
most_resistance_below table resistances c =
    let within = max_within (length table / 16) (λ node. get_or table (16 * node + c) 0) (resistance_limit - 1)
    (λ node _. let high = resistances (16 * node + c) in omega arith) in
    omega arith

-- The bounds that are made from the words `given`, which are 0.
module _ (table words : List ℕ) {stop : ℕ} {given : List ℕ} where
  pub bounds_none : given ≡ replicate 512 0 → Rewritten (drop_part (most_resistance table) (sheet_in words) 0) 0 stop given given
  unfolding sum_below
  bounds_none e = record { long = refl; done = λ k h. rw e (replicate_at 512 (0 + k) 0); rest = λ j h. refl }

  pub bounds_all : (n : ℕ) {sums : List ℕ} → n ≡ 16 → Rewritten (drop_part (most_resistance table) (sheet_in words) n) 0 stop given sums
      → Rewritten (bound_at table (sheet_in words)) 0 stop given sums
  unfolding bound_at
  bounds_all n e summed = rw e at summed

  module _ (start n : ℕ) {resistance : ℕ} {sums : List ℕ} (summed : Rewritten (drop_part (most_resistance table) (sheet_in words) n) 0 stop given sums)
      (e : resistance ≡ most_resistance table n) (place : start ≡ 512 * n) where
    -- The bound with one contact more.
    with_next : (t : ℕ) → t < stop → with_contact sums resistance words start t ≡ drop_part (most_resistance table) (sheet_in words) (n + 1) t
    unfolding with_contact
    with_next t h =
        rw (rewritten_first _ stop given sums summed t h, e, place) (sym (sum_next n (λ c. most_resistance table c * sheet_in words c t)))

    pub bound_small : n < 16 → ((i : ℕ) → get_or table i 0 < resistance_limit) → Droppable stop words → (t : ℕ) → t < stop
        → with_contact sums resistance words start t < drop_limit
    bound_small h resistances droppable t l =
        let inside = droppable.quiet.ticks in
        let part = drop_part_lem (most_resistance table) (sheet_in words) t (most_resistance_below table resistances) (droppable.most t (omega arith))
        (n + 1) (omega arith) in
        omega (arith, with_next t l)

    pub bounds_next : {after : List ℕ} → Rewritten (with_contact sums resistance words start) 0 stop sums after
        → Rewritten (drop_part (most_resistance table) (sheet_in words) (n + 1)) 0 stop given after
    bounds_next written = record {
      long = written.long ∙ summed.long;
      done = λ t h. written.done t h ∙ with_next t h;
      rest = λ j o. written.rest j o ∙ summed.rest j o;
    }

-- A node's drop at a tick, contact by contact.
module _ (table words : List ℕ) (node t n : ℕ) {sum resistance current : ℕ}
    (summed : sum ≡ drop_part (λ c. get_or table (16 * node + c) 0) (sheet_in words) n t)
    (e : resistance ≡ get_or table (16 * node + n) 0) (d : current ≡ sheet_in words n t) where
  pub node_next : sum + resistance * current ≡ drop_part (λ c. get_or table (16 * node + c) 0) (sheet_in words) (n + 1) t
  node_next = rw (summed, e, d) (sym (sum_next n (λ c. get_or table (16 * node + c) 0 * sheet_in words c t)))

  pub node_small : n < 16 → ((i : ℕ) → get_or table i 0 < resistance_limit) → TickFits words t → sum + resistance * current < drop_limit
  node_small h resistances fits =
      let part = drop_part_lem (λ c. get_or table (16 * node + c) 0) (sheet_in words) t (λ c. resistances (16 * node + c)) fits.most (n + 1) (omega arith) in
      omega (arith, node_next)

-- Where there is no tick there is no drop.
pub drop_none : (table : List ℕ) {words : List ℕ} {stop : ℕ} → Droppable stop words → stop ≡ 0 → 0 ≡ drop_of table (sheet_in words)
unfolding max_below
drop_none table droppable e = sym (drop_until table droppable ∙ rw e refl)

pub tick_fits : {words : List ℕ} {stop t : ℕ} → Droppable stop words → t < stop → TickFits words t
tick_fits {t = t} droppable h =
    let inside = droppable.quiet.ticks in
    record { tick = omega arith; long = droppable.quiet.long; most = droppable.most t (omega arith) }

-- The ticks, one by one: the greatest of their drops so far, and of the drop `first` of the tick that is worked out first.
module _ (table words : List ℕ) (first t : ℕ) {most : ℕ} (so_far : most ≡ max first (max_below t (tick_drop table (sheet_in words)))) where
  pub tick_taken : {here v : ℕ} → here ≡ tick_drop table (sheet_in words) t → v ≡ max most here
      → v ≡ max first (max_below (t + 1) (tick_drop table (sheet_in words)))
  tick_taken e q = omega (arith, max_next t (tick_drop table (sheet_in words)))

  pub tick_passed : {bound v : ℕ} → bound ≡ bound_at table (sheet_in words) t → bound ≤ most → v ≡ most
      → v ≡ max first (max_below (t + 1) (tick_drop table (sheet_in words)))
  tick_passed e h q = omega (arith, max_next t (tick_drop table (sheet_in words)), tick_bounded table (sheet_in words) t)

  pub ticks_all : {stop place : ℕ} → Droppable stop words → t ≡ stop → place < stop → first ≡ tick_drop table (sheet_in words) place
      → most ≡ drop_of table (sheet_in words)
  ticks_all {stop} {place} droppable e h d =
      let whole : most ≡ max first (max_below stop (tick_drop table (sheet_in words))) = rw e at so_far in
      omega (arith, max_at stop (tick_drop table (sheet_in words)) place h, drop_until table droppable)
