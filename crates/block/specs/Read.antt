-- What the reader's parts promise of the arrivals that they pass on.
use Rattle.block.specs.Verdict.{Verdict, Accepted}
use Rattle.std.specs.Prelude.{ℕ, ◌+◌, ◌≡◌, List, length, take}
use Rattle.block.specs.Record.{File}
use Rattle.block.specs.Block.{arrivals, inputs_below}
use Rattle.block.specs.Verdict.{verdict}
use Rattle.block.specs.Refusals.{record_checks}

-- What is known before the record of a net is checked: how many inputs stand below it, and the arrivals of the nets below it.
pub record Known (file : File) (net inputs : ℕ) (earlier : List ℕ) : Type 0 where
  pub counted : inputs ≡ inputs_below file net
  pub sized : length earlier ≡ 1024
  pub arrived : take net earlier ≡ arrivals file net

-- The record of a net is checked, and where it is accepted its arrival stands beside the earlier ones.
pub record RecordChecked (file : File) (net : ℕ) (answer : Verdict) (later : List ℕ) : Type 0 where
  pub judged : answer ≡ verdict (record_checks file net)
  pub sized : length later ≡ 1024
  pub arrived : answer ≡ Accepted → take (net + 1) later ≡ arrivals file (net + 1)
