-- What reading an input comes to, and what the program does with it.
use Rattle.std.specs.Prelude.{ℕ, ◌≤◌, ◌<◌, List, take, length, codes, Option, IfSome, Result, Ok, Err, IfOk}
use Rattle.std.specs.Io.KnownBytes.{Keeps, Appends, Consumes, IsAtEnd}
use Rattle.program.specs.Program.{program_text}
use Rattle.estimate.specs.declared.Failure.{Failure}
use Rattle.estimate.specs.declared.Failure.TheVariants.{Unread, Unwritten}

-- What is said of a failure.
abbrev pub failure_text : Failure → List ℕ
failure_text Unread = codes "standard input cannot be read; no answer"
failure_text Unwritten = codes "the answer cannot be written"

-- What reading comes to: so many bytes, or a read that failed.
module _ {E : Type 0} where
  -- No more bytes than there was room for.
  abbrev pub Within : ℕ → Result ℕ E → Type 0
  Within room read = IfOk read (λ n. n ≤ room)

  -- All reads: the room begins with the bytes that the input no longer has. Where it is not full, the input is at its end. This is said of
  -- an input whose bytes are known; those of standard input are not.
  abbrev pub IsRead : Option (List ℕ) → Option (List ℕ) → List ℕ → Result ℕ E → Type 0
  IsRead before after room read = IfOk read (λ n. Consumes before after (take n room) × (n < length room → IsAtEnd after))

-- What the program writes for an input: its text for all bytes of the input; nothing where it cannot be read.
abbrev pub IsAnswered : Option (List ℕ) → Option (List ℕ) → Option (List ℕ) → Result (Unit {0}) Failure → Type 0
IsAnswered input before after (Ok done) = IfSome input (λ file. Appends before after (program_text file))
IsAnswered input before after (Err Unread) = Keeps before after
IsAnswered input before after (Err Unwritten) = Unit
