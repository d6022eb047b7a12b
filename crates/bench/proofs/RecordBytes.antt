-- Laws of the bytes of records: how code that makes and stores one byte after the other comes to them.
-- Assumes nothing.
use Prim.Native.Nat.{ℕ, ◌+◌, ◌-◌, ◌*◌, ◌/◌, ◌%◌}
use mathlib.Core.List.{List, [], ◌∷◌}
use mathlib.Core.Path.{◌≡◌}
use native.Mathlib.Nat.{add-zero}
use lib.ListN.{get_or}
use Rattle.bench.specs.Records.{gate_record}

-- A gate's record, from the low and the high byte of each net.
pub gate_bytes : (list : List ℕ) (kind used : ℕ) (net : ℕ → ℕ) (l0 h0 l1 h1 l2 h2 l3 h3 : ℕ)
    → l0 ≡ net 0 % 256 → h0 ≡ net 0 / 256 → l1 ≡ net 1 % 256 → h1 ≡ net 1 / 256
    → l2 ≡ net 2 % 256 → h2 ≡ net 2 / 256 → l3 ≡ net 3 % 256 → h3 ≡ net 3 / 256
    → kind ∷ get_or list (8 * (kind - 2)) 0 ∷ get_or list (8 * (kind - 2) + 1) 0 ∷ used ∷ l0 ∷ h0 ∷ l1 ∷ h1 ∷ l2 ∷ h2 ∷ l3 ∷ h3
    ∷ get_or list (8 * (kind - 2) + 2) 0 ∷ get_or list (8 * (kind - 2) + 3) 0 ∷ get_or list (8 * (kind - 2) + 4) 0
    ∷ get_or list (8 * (kind - 2) + 5) 0 ∷ get_or list (8 * (kind - 2) + 6) 0 ∷ get_or list (8 * (kind - 2) + 7) 0 ∷ 0 ∷ 0 ∷ []
    ≡ gate_record list kind used net
unfolding gate_record
gate_bytes list kind used net l0 h0 l1 h1 l2 h2 l3 h3 a b c d e f g h = cc (add-zero (8 * (kind - 2)))
