-- The constant table of set joins (document 01, "Excitations and sets"): 256 entries for each of AND, OR and XOR, and entry
-- 16 × first + second of the 256 gives the join.
use Rattle.std.specs.Prelude.{ℕ, ◌/◌, ◌%◌, List, [], ◌∷◌, get_or}
use Rattle.laws.specs.Turn.{list_below}
use Rattle.excitation.specs.declared.Join.TheVariants as by
use Rattle.excitation.specs.declared.Excitation.{Excitation}
use Rattle.excitation.specs.declared.Join.{Join}
use Rattle.excitation.specs.Excitation.{levels_of}
use Rattle.excitation.specs.UncertaintySet.{code, decode, join_sets, each}

-- Where the 256 entries of a join start: AND, then OR, then XOR.
abbrev pub start_of : Join → ℕ
start_of by.And = 0
start_of by.Or = 256
start_of by.Xor = 512

-- The join whose 256 entries are the first, second or third of the table, counted from 0.
abbrev pub join_at : ℕ → Join
join_at third = get_or (by.And ∷ by.Or ∷ by.Xor ∷ []) third by.And

-- The rule of the table of joins: what entry k is.
unfoldable pub join_entry : ℕ → ℕ
join_entry k = code (join_sets (levels_of (join_at (k / 256))) (decode (k / 16 % 16)) (decode (k % 16)))

-- Document 01's constant table: 768 set joins.
unfoldable pub join_table : List ℕ
join_table = list_below 768 join_entry

-- The rule of the tables of 16: what becomes of the set n when each of its members becomes another excitation.
unfoldable pub each_entry : (Excitation → Excitation) → ℕ → ℕ
each_entry g n = code (each g (decode n))
