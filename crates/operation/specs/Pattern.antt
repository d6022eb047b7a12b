-- Check 16, of a pattern's bytes (document 01, "Refusals in checking order").
use Rattle.block.specs.declared.verdict.Reason.TheVariants.{WrongPatternByte}
use Rattle.std.specs.Prelude.{ℕ, Bool, ◌&&◌, List, leb, get_or}
use Rattle.laws.specs.Turn.{list_below}
use Rattle.excitation.specs.Excitation.{excitation_of}
use Rattle.excitation.specs.UncertaintySet.{member, decode}
use Rattle.block.specs.Record.{File, allowed}
use Rattle.block.specs.Verdict.{Check, check}

-- 16. A pattern byte for an input is above 3 or not allowed by byte 18.
unfoldable pub byte_allowed : File → ℕ → ℕ → Bool
byte_allowed file net byte = leb byte 3 && member (excitation_of byte) (decode (allowed file net))

-- The checks on the pattern bytes of the first n inputs, in order: of several bad pattern bytes the lowest net.
unfoldable pub byte_checks : File → List ℕ → ℕ → List Check
byte_checks file pattern n = list_below n (λ net. check WrongPatternByte net (byte_allowed file net (get_or pattern net 0)))
