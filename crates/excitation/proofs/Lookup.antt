-- What stands in a table that follows its rule. That each constant table of the code is the list of its rule's values is one
-- computed comparison of all its entries, in the proof of the method that looks it up.
-- Assumes nothing.
use Prim.Native.Nat.{ℕ, ◌+◌, ◌*◌, ◌/◌, ◌%◌, ◌<◌}
use mathlib.Core.Path.{◌≡◌, refl, ap, ◌∙◌}
use native.Mathlib.Omega.{arith}
use lib.ListN.{get_or}
use Rattle.laws.specs.Turn.{list_below}
use Rattle.laws.proofs.Turn.{list_at}
use Rattle.excitation.specs.Excitation.{levels_of}
use Rattle.excitation.specs.Table.{start_of, join_at, join_entry, join_table, each_entry}
use Rattle.excitation.specs.UncertaintySet.{code, decode, join_sets, each}
use Rattle.excitation.specs.declared.Excitation.{Excitation}
use Rattle.excitation.specs.declared.Join.{Join}
use Rattle.excitation.specs.declared.Join.TheVariants as by
use Rattle.excitation.proofs.Codes.{decode_low}

pub each_at : (g : Excitation → Excitation) (n : ℕ) → get_or (list_below 16 (each_entry g)) (n % 16) 0 ≡ code (each g (decode n))
unfolding each_entry
each_at g n = list_at 16 (each_entry g) (n % 16) 0 (omega arith) ∙ ap (λ s. code (each g s)) (decode_low n)

third_at : (n a b : ℕ) → n < 3
    → get_or (list_below 768 join_entry) (256 * n + 16 * (a % 16) + b % 16) 0 ≡ code (join_sets (levels_of (join_at n)) (decode a) (decode b))
unfolding join_entry
third_at n a b h =
    let k = 256 * n + 16 * (a % 16) + b % 16 in
    let p : k / 256 ≡ n = omega arith in
    let q : k / 16 % 16 ≡ a % 16 = omega arith in
    let r : k % 16 ≡ b % 16 = omega arith in
    list_at 768 join_entry k 0 (omega arith) ∙ rw (p, q, r, decode_low a, decode_low b) refl

pub join_at_lem : (by : Join) (a b : ℕ)
    → get_or join_table (start_of by + 16 * (a % 16) + b % 16) 0 ≡ code (join_sets (levels_of by) (decode a) (decode b))
unfolding join_table
join_at_lem by.And a b = third_at 0 a b (omega arith)
join_at_lem by.Or a b = third_at 1 a b (omega arith)
join_at_lem by.Xor a b = third_at 2 a b (omega arith)
