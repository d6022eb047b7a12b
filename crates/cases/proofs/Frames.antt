-- Laws of the frame's codes, by which the first case is given.
-- Assumes nothing.
use Prim.Native.Nat.{ℕ}
use mathlib.Core.List.{List}
use mathlib.Core.Logic.{inr}
use mathlib.Core.Path.{◌≡◌, ◌∙◌}
use native.Mathlib.Omega.{arith}
use lib.ListN.{length, replicate, length-replicate, get_or-replicate}
use Rattle.laws.specs.Rewritten.{Rewritten}
use Rattle.block.specs.Accepted.{AcceptedFile}
use Rattle.block.specs.Record.{File, allowed}
use Rattle.block.proofs.Frames.{frame_code}
use Rattle.cases.specs.Records.{SetCodes}

-- The frame's codes are those of sets that are not empty, and their sets are the frame.
module _ {file : File} {nets inputs : ℕ} (accepted : AcceptedFile file nets inputs) {codes : List ℕ}
    (coded : Rewritten (allowed file) 0 inputs (replicate 64 0) codes) where
  pub codes_long : length codes ≡ 64
  codes_long = coded.long ∙ length-replicate {A = ℕ} 64 0

  pub frame_coded : SetCodes inputs codes
  frame_coded = record {
    low = λ net h. rw (frame_code accepted coded net h) (accepted.input net h).allowed_low;
    high = λ net h. rw (frame_code accepted coded net h) (accepted.input net h).allowed_high;
    none = λ j h m. coded.rest j (inr (omega arith)) ∙ get_or-replicate 64 j 0 0 m;
  }
