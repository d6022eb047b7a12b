-- The records of a block file (document 01, "The block file").
use Rattle.std.specs.Prelude.{ℕ, ◌+◌, ◌*◌, ◌/◌, ◌≤◌, ◌<◌, Bool, List, eqb, length, get_or}

-- A block file: the list of its bytes.
abbrev pub File : Type 0
File = List ℕ

-- Records of 20 bytes, no header.
abbrev pub net_count : File → ℕ
net_count file = length file / 20

-- Byte k of the record of a net. The net number is the record's position from 0.
abbrev pub byte_at : File → ℕ → ℕ → ℕ
byte_at file net k = get_or file (20 * net + k) 0

-- Two-byte numbers have the low byte first.
abbrev pub word_at : File → ℕ → ℕ → ℕ
word_at file net k = byte_at file net k + 256 * byte_at file net (k + 1)

-- Byte 0, kind.
abbrev pub kind : File → ℕ → ℕ
kind file net = byte_at file net 0

-- Byte 1, contact; byte 2, delay D in ticks; byte 3, pin count.
abbrev pub contact : File → ℕ → ℕ
contact file net = byte_at file net 1

abbrev pub delay : File → ℕ → ℕ
delay file net = byte_at file net 2

abbrev pub pin_count : File → ℕ → ℕ
pin_count file net = byte_at file net 3

-- Bytes 4 to 11: four pin nets, pins 0 to 3.
abbrev pub pin : File → ℕ → ℕ → ℕ
pin file net p = word_at file net (4 + 2 * p)

-- Byte 12, rise r, and byte 13, fall f, in ticks.
abbrev pub rise : File → ℕ → ℕ
rise file net = byte_at file net 12

abbrev pub fall : File → ℕ → ℕ
fall file net = byte_at file net 13

-- Bytes 14, 15, peak for lh, and bytes 16, 17, peak for hl, in microamperes.
abbrev pub peak_lh : File → ℕ → ℕ
peak_lh file net = word_at file net 14

abbrev pub peak_hl : File → ℕ → ℕ
peak_hl file net = word_at file net 16

-- Byte 18, inputs only: the allowed excitations, a coded set.
abbrev pub allowed : File → ℕ → ℕ
allowed file net = byte_at file net 18

-- Kind 1 is an input; every other known kind is a gate.
unfoldable pub is_input : File → ℕ → Bool
is_input file net = eqb (kind file net) 1

-- The file holds the whole record of a net, and the net is one of 1,024.
pub record HasRecord (file : File) (net : ℕ) : Type 0 where
  pub whole : 20 * net + 20 ≤ length file
  pub numbered : net < 1024
