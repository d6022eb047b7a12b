-- Laws of the frame of an accepted file: none of its sets is empty, and the bytes of each of its patterns pass check 16.
-- Assumes nothing.
use Rattle.block.specs.Verdict.{Accepted}
use Prim.Native.Nat.{ℕ, ◌≤◌, ◌<◌}
use mathlib.Core.Bool.{true}
use mathlib.Core.List.{List, map}
use mathlib.Core.Path.{◌≡◌, sym, subst, ◌∙◌}
use native.Mathlib.Omega.{arith}
use lib.ListN.{length, get_or, drop, length-append, length-drop, length-map, get_or-append, get_or-map}
use borrow.Author.Tests.{le-leb}
use Rattle.laws.proofs.Pairs.{pairs_in, pairs_long}
use Rattle.laws.proofs.Tests.{and_both}
use Rattle.excitation.specs.Excitation.{l, byte_of, pattern_of}
use Rattle.excitation.specs.UncertaintySet.{◌∈◌, decode, empty}
use Rattle.excitation.specs.declared.Excitation.{Excitation}
use Rattle.excitation.proofs.Bytes.{byte_low, byte_back, pattern_read}
use Rattle.block.specs.Accepted.{AcceptedFile}
use Rattle.block.specs.Block.{frame, input_count, Choice}
use Rattle.block.specs.Record.{File, allowed}
use Rattle.block.specs.Verdict.{verdict}
use Rattle.block.proofs.Accepted.{allows_some}
use Rattle.block.proofs.Frames.{frame_at, frame_long}
use Rattle.cases.specs.Case.{probe}
use Rattle.cases.specs.Store.{pattern_with}
use Rattle.cases.proofs.Cases.{probe_chosen}
use Rattle.operation.specs.Pattern.{byte_allowed, byte_checks}
use Rattle.operation.proofs.Patterns.{bytes_pass}

-- The frame's probe is one of its patterns.
pub frame_probe : (file : File) (nets inputs : ℕ) → AcceptedFile file nets inputs → Choice (probe (frame file)) (frame file)
frame_probe file nets inputs accepted =
    probe_chosen (frame file)
    (λ net h. let here : net < input_count file = rw (frame_long file) at h in
    let some = allows_some file net (accepted.input net (rw accepted.input_count_lem at here)) in
    (some.0, subst (λ s. some.0 ∈ s) (sym (frame_at file net here)) some.1))

-- A pattern of the frame, as the pattern buffer has it.
module _ (file : File) (pattern : List Excitation) (given : List ℕ) (choice : Choice pattern (frame file)) where
  pattern_long : length pattern ≡ input_count file
  pattern_long = pairs_long ◌∈◌ choice ∙ frame_long file

  byte_in : (net : ℕ) → net < input_count file → get_or (pattern_with pattern given) net 0 ≡ byte_of (get_or pattern net l)
  unfolding pattern_with byte_of
  byte_in net h =
      get_or-append (map byte_of pattern) (drop (length pattern) given) 0 net (rw (length-map pattern byte_of, pattern_long) h)
      ∙ get_or-map byte_of pattern net l

  pub pattern_room : input_count file ≤ 64 → length given ≡ 64 → length (pattern_with pattern given) ≡ 64
  unfolding pattern_with
  pattern_room few long =
      let all = length-append (map byte_of pattern) (drop (length pattern) given) in
      omega (arith, all, length-map pattern byte_of, length-drop (length pattern) given, pattern_long)

  pub pattern_back : pattern_of (input_count file) (pattern_with pattern given) ≡ pattern
  pattern_back = pattern_read (input_count file) pattern (pattern_with pattern given) pattern_long byte_in

  allowed_here : (net : ℕ) → net < input_count file → byte_allowed file net (get_or (pattern_with pattern given) net 0) ≡ true
  unfolding byte_allowed
  allowed_here net h =
      rw (byte_in net h)
      (and_both (le-leb (byte_of (get_or pattern net l)) 3 (byte_low (get_or pattern net l)))
      (subst (λ e. e ∈ decode (allowed file net)) (sym (byte_back (get_or pattern net l)))
      (subst (λ s. get_or pattern net l ∈ s) (frame_at file net h) (pairs_in ◌∈◌ choice l empty net (rw pattern_long h)))))

  -- Check 16 lets it pass.
  pub pattern_passes : verdict (byte_checks file (pattern_with pattern given) (input_count file)) ≡ Accepted
  pattern_passes = bytes_pass file (pattern_with pattern given) (input_count file) allowed_here
