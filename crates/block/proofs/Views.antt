-- Laws of gates read from their records, and of the block view.
-- Assumes nothing.
use Prim.Native.Nat.{ℕ, zero, suc, ◌<◌}
use mathlib.Core.List.{[], ◌∷◌}
use mathlib.Core.Path.{◌≡◌, refl, ap}
use native.Mathlib.Omega.{arith}
use Rattle.block.specs.declared.Net.{Net}
use Rattle.block.specs.Record.{File, HasRecord, kind, contact, delay, pin_count, pin, rise, fall, peak_lh, peak_hl}
use Rattle.block.specs.View.{net_of, gate_of, pin_of, InView}

-- A gate read field by field is the gate of the record.
pub gate_is : (file : File) (net : ℕ) {k c d u r f l h : ℕ} {p0 p1 p2 p3 : Net} → k ≡ kind file net → c ≡ contact file net → d ≡ delay file net
    → u ≡ pin_count file net → p0.0 ≡ pin file net 0 → p1.0 ≡ pin file net 1 → p2.0 ≡ pin file net 2 → p3.0 ≡ pin file net 3
    → r ≡ rise file net → f ≡ fall file net → l ≡ peak_lh file net → h ≡ peak_hl file net
    → record { kind = k; contact = c; delay = d; used = u; pins = p0 ∷ p1 ∷ p2 ∷ p3 ∷ []; rise = r; fall = f; peaks = record { lh = l; hl = h } } ≡ gate_of file net
unfolding gate_of
gate_is file net ek ec ed eu e0 e1 e2 e3 er ef el eh =
    cc (ap net_of e0, ap net_of e1, ap net_of e2, ap net_of e3)

-- The pins of a gate are those of its record.
pub pin_of_lem : (file : File) (net p : ℕ) → p < 4 → pin_of (gate_of file net) p ≡ pin file net p
unfolding gate_of
pin_of_lem file net zero h = refl
pin_of_lem file net (suc zero) h = refl
pin_of_lem file net (suc (suc zero)) h = refl
pin_of_lem file net (suc (suc (suc zero))) h = refl
pin_of_lem file net (suc (suc (suc (suc p)))) h = absurd (omega arith)

-- A net of a view has its record in the slice.
pub in_view : {file : File} {nets net : ℕ} → InView file nets net → HasRecord file net
in_view inside = record { whole = omega (arith, inside.whole, inside.inside); numbered = inside.numbered }
