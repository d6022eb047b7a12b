-- The greatest currents and drops that a block can have, from the sizes of document 01's numbers ("The block file" and "Levels and
-- simulation") and from request 5.
use Rattle.std.specs.Prelude.{ℕ, ◌*◌, ◌-◌}

-- Every peak is below this, in microamperes: a peak has two bytes.
abbrev pub peak_limit : ℕ
peak_limit = 65536

-- A gate draws at most this current at a tick: the sum of pulses, none of them above a peak. A pulse of rise r and fall f is above 0 at
-- r + f − 1 ticks at most, which is 253, so that no more than 253 pulses of a gate meet at a tick.
abbrev pub gate_limit : ℕ
gate_limit = 253 * (peak_limit - 1)

-- All gates of a block together, of which there are at most 1,024, draw at most this current at a tick. So does each contact.
abbrev pub block_limit : ℕ
block_limit = 1024 * gate_limit

-- Every word of a sheet is below this: a word has 64 bits.
abbrev pub word_limit : ℕ
word_limit = 18446744073709551616

-- Every resistance is below this: a resistance has 16 bits.
abbrev pub resistance_limit : ℕ
resistance_limit = 65536

-- Every drop is below this, in nanovolts. At a node and a tick each gate's current is counted once, times one resistance. It is below
-- 2 ^ 50, so that 10,000 times a drop fits a word of 64 bits.
abbrev pub drop_limit : ℕ
drop_limit = resistance_limit * block_limit
