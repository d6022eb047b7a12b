-- Laws of the frame: its sets, and the codes that an accepted file has for them.
-- Assumes nothing.
use Prim.Native.Nat.{ℕ, ◌<◌}
use mathlib.Core.List.{List}
use mathlib.Core.Path.{◌≡◌, ap, sym, ◌∙◌}
use lib.ListN.{length, get_or}
use Rattle.laws.specs.Rewritten.{Rewritten}
use Rattle.laws.specs.Turn.{list_below}
use Rattle.laws.proofs.Rewritten.{rewritten_first}
use Rattle.laws.proofs.Turn.{list_at, list_long, list_same}
use Rattle.excitation.specs.UncertaintySet.{decode, empty, sets_in}
use Rattle.block.specs.Accepted.{AcceptedFile}
use Rattle.block.specs.Block.{frame, input_count}
use Rattle.block.specs.Record.{File, allowed}

pub frame_at : (file : File) (net : ℕ) → net < input_count file → get_or (frame file) net empty ≡ decode (allowed file net)
unfolding frame
frame_at file net h = list_at (input_count file) (λ net. decode (allowed file net)) net empty h

pub frame_long : (file : File) → length (frame file) ≡ input_count file
unfolding frame
frame_long file = list_long (input_count file) (λ net. decode (allowed file net))

-- The codes of the frame, once they are written.
module _ {file : File} {nets inputs : ℕ} (accepted : AcceptedFile file nets inputs) {given codes : List ℕ}
    (coded : Rewritten (allowed file) 0 inputs given codes) where
  pub frame_code : (net : ℕ) → net < inputs → get_or codes net 0 ≡ allowed file net
  frame_code = rewritten_first (allowed file) inputs given codes coded

  pub frame_sets : sets_in inputs codes ≡ frame file
  unfolding sets_in frame
  frame_sets =
      list_same inputs (λ net. decode (get_or codes net 0)) (λ net. decode (allowed file net)) empty (λ net h. ap decode (frame_code net h))
      ∙ ap (λ n. list_below n (λ net. decode (allowed file net))) (sym accepted.input_count_lem)
