-- Laws of the total of a tick: what the 16 contacts draw together. It bounds the drop.
-- Assumes nothing.
use Rattle.std.proofs.Common.{◌≡◌, ℕ, ◌+◌, ◌-◌, ◌*◌, ◌/◌, ◌<◌, ◌≤◌, List, length, get_or, arith}
use Rattle.laws.specs.Below.{max_below, sum_below}
use Rattle.laws.proofs.Below.{max_within, sum_within, sum_fewer, sum_weighted}
use Rattle.block.specs.Limits.{block_limit, resistance_limit, drop_limit}
use Rattle.sheet.specs.Changes.{restored_in}
use Rattle.sheet.specs.Sheet.{Sheet, drop_at, drop_of}
use Rattle.sheet.specs.Words.{Cleared}
use Rattle.sheet.proofs.Changes.{cleared_restored}

-- Cleared words give none.
pub total_cleared : {words : List ℕ} → Cleared words → (t : ℕ) → sum_below 16 (λ c. restored_in words c t) ≡ 0
total_cleared {words} none t =
    omega (arith, sum_within 16 (λ c. restored_in words c t) 0 (λ c h. rw (cleared_restored none c t) (omega arith)))

-- The part of a drop that the first n contacts have, by the resistance of each.
abbrev pub drop_part : (ℕ → ℕ) → Sheet → ℕ → ℕ → ℕ
drop_part resistance s n t = sum_below n (λ c. resistance c * s c t)

-- At a tick each current is counted once, times one resistance. So the first contacts' part of a drop, and the drop.

pub drop_part_lem : (resistance : ℕ → ℕ) (s : Sheet) (t : ℕ) → ((c : ℕ) → resistance c < resistance_limit) → sum_below 16 (λ c. s c t) ≤ block_limit
    → (n : ℕ) → n ≤ 16 → drop_part resistance s n t ≤ (resistance_limit - 1) * block_limit
drop_part_lem resistance s t resistances most n h =
    let weighted = sum_weighted n resistance (λ c. s c t) (resistance_limit - 1) (λ c _. let high = resistances c in omega arith) in
    let fewer = sum_fewer 16 n (λ c. s c t) h in
    omega arith

pub drop_below : (table : List ℕ) (s : Sheet) → ((i : ℕ) → get_or table i 0 < resistance_limit)
    → ((t : ℕ) → t < 512 → sum_below 16 (λ c. s c t) ≤ block_limit) → drop_of table s < drop_limit
unfolding drop_of drop_at
drop_below table s resistances most =
    let within = max_within (length table / 16) (λ node. max_below 512 (λ t. drop_at table s node t)) ((resistance_limit - 1) * block_limit)
    (λ node _. max_within 512 _ _ (λ t h. drop_part_lem _ s t (λ c. resistances (16 * node + c)) (most t h) 16 (omega arith))) in
    omega arith
