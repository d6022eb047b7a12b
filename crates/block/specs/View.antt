-- The block view: gate by gate, a checked block is read through the caller's own records (document 01, "The block file").
use Rattle.std.specs.Prelude.{ℕ, ◌*◌, ◌≤◌, ◌<◌, ◌≡◌, [], ◌∷◌, length, get_or}
use Rattle.block.specs.declared.Gate.{Gate}
use Rattle.block.specs.declared.Net.{Net}
use Rattle.block.specs.Limits.{peak_limit}
use Rattle.block.specs.Record.{File, kind, contact, delay, pin_count, pin, rise, fall, peak_lh, peak_hl}

-- The net of a number.
abbrev pub net_of : ℕ → Net
net_of number = record { 0 = number }

-- The gate of a net, as the record has it.
unfoldable pub gate_of : File → ℕ → Gate
gate_of file net = record {
  kind = kind file net;
  contact = contact file net;
  delay = delay file net;
  used = pin_count file net;
  pins = net_of (pin file net 0) ∷ net_of (pin file net 1) ∷ net_of (pin file net 2) ∷ net_of (pin file net 3) ∷ [];
  rise = rise file net;
  fall = fall file net;
  peaks = record { lh = peak_lh file net; hl = peak_hl file net };
}

-- The net of pin p of a gate, 0 to 3.
abbrev pub pin_of : Gate → ℕ → ℕ
pin_of gate p = (get_or gate.pins p (net_of 0)).0

-- A net of a view of so many records, and one of 1,024.
pub record InView (file : File) (nets net : ℕ) : Type 0 where
  pub whole : 20 * nets ≤ length file
  pub inside : net < nets
  pub numbered : net < 1024

-- Fields of one byte, and peaks of two.
pub record FieldsFit (gate : Gate) : Type 0 where
  pub contact_high : gate.contact < 256
  pub delay_high : gate.delay < 256
  pub rise_high : gate.rise < 256
  pub fall_high : gate.fall < 256
  pub peak_lh_high : gate.peaks.lh < peak_limit
  pub peak_hl_high : gate.peaks.hl < peak_limit

-- The gate of a net, read.
pub record GateRead (file : File) (net : ℕ) (gate : Gate) : Type 0 where
  pub is : gate ≡ gate_of file net
  pub fits : FieldsFit gate
