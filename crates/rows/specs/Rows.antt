-- Rows of 256 ticks in the lent work buffer, 160 bytes a net: 64 ticks of a net's sets are 32 bytes, a word of eight for each of l, h,
-- hl and lh, lowest first.
use Rattle.std.specs.Prelude.{ℕ, ◌+◌, ◌*◌, ◌/◌, ◌%◌, ◌≤◌, ◌<◌, Bool, cond, List, ◌⊎◌, ◌≡◌, length, get_or}
use Rattle.bits.specs.Bits.{bit_at, row_bit}
use Rattle.excitation.specs.Excitation.{same}
use Rattle.excitation.specs.UncertaintySet.{UncertaintySet, member}
use Rattle.excitation.specs.declared.Excitation.{Excitation}
use Rattle.parts.specs.Parts.{set_at}
use Rattle.parts.specs.declared.Part.{Part}

-- Bit k of the bytes from a place on.
unfoldable pub bit_from : List ℕ → ℕ → ℕ → Bool
bit_from bytes at k = bit_at (get_or bytes (at + k / 8) 0) (k % 8)

-- Set k of the 64 sets of the 32 bytes from a place on.
unfoldable pub set_from : List ℕ → ℕ → ℕ → UncertaintySet
set_from bytes at k = record {
  has_l = bit_from bytes at k;
  has_h = bit_from bytes (at + 8) k;
  has_hl = bit_from bytes (at + 16) k;
  has_lh = bit_from bytes (at + 24) k;
}

-- The set at tick t of a net.
unfoldable pub set_in : List ℕ → ℕ → ℕ → UncertaintySet
set_in work net t = set_from work (160 * net + 32 * (t / 64)) (t % 64)

-- The buffer after 64 sets were written into the 32 bytes from a place on.
pub record PartWritten (part : Part) (at : ℕ) (given after : List ℕ) : Type 0 where
  pub long : length after ≡ length given
  pub sets : (k : ℕ) → k < 64 → set_from after at k ≡ set_at part k
  pub rest : (j : ℕ) → (j < at) ⊎ (at + 32 ≤ j) → get_or after j 0 ≡ get_or given j 0

-- A buffer with room for the row of a net.
pub record HasRow (work : List ℕ) (net : ℕ) : Type 0 where
  pub whole : 160 * net + 160 ≤ length work
  pub numbered : net < 1024

-- The buffer after the sets of a net at the first n ticks were made by a rule.
pub record RowMade (rule : ℕ → UncertaintySet) (net n : ℕ) (given after : List ℕ) : Type 0 where
  pub long : length after ≡ length given
  pub sets : (t : ℕ) → t < n → set_in after net t ≡ rule t
  pub rest : (j : ℕ) → (j < 160 * net) ⊎ (160 * net + n / 2 ≤ j) → get_or after j 0 ≡ get_or given j 0

-- Where the word of an excitation stands in a part.
unfoldable pub place_of : Excitation → ℕ
place_of e = cond e.before (cond e.after 8 16) (cond e.after 24 0)

-- The four words of an excitation, with a bit for each tick at which the sets of a net have it.
pub record RowRead (e : Excitation) (net : ℕ) (work row : List ℕ) : Type 0 where
  pub long : length row ≡ 4
  pub ticks : (t : ℕ) → t < 256 → row_bit row t ≡ member e (set_in work net t)

-- The buffer after the words of one excitation of a net were written.
pub record RowWritten (e : Excitation) (net : ℕ) (row given after : List ℕ) : Type 0 where
  pub long : length after ≡ length given
  pub ticks : (f : Excitation) (t : ℕ) → t < 256 → member f (set_in after net t) ≡ cond (same f e) (row_bit row t) (member f (set_in given net t))
  pub rest : (j : ℕ) → (j < 160 * net) ⊎ (160 * net + 128 ≤ j) → get_or after j 0 ≡ get_or given j 0
