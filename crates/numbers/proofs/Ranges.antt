-- Laws of buffers of which one range was copied from a list.
-- Assumes nothing.
use Rattle.std.proofs.Common.{◌≡◌, ℕ, ◌+◌, ◌-◌, ◌<◌, ◌≤◌, List, length, get_or, arith}
use Rattle.std.proofs.lemmas.Grind.{common_steps}
use borrow.Rule.Slice.PartMut.{put_mid}
use Rattle.laws.specs.Rewritten.{Rewritten}

-- The words of a list written into a range as long as it.
pub range_written : (f : ℕ → ℕ) (at n : ℕ) (given part : List ℕ) → at + n ≤ length given → length part ≡ n
    → ((k : ℕ) → k < n → get_or part k 0 ≡ f k) → Rewritten f at n given (put_mid at (at + n - at) given part)
range_written f at n given part room long same = record {
  long = grind (arith, common_steps);
  done = λ k h. let b = same k h in grind (arith, common_steps);
  rest = λ j h. grind (arith, common_steps);
}
