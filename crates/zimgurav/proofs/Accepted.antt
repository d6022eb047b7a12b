-- The first number of an answer is 0 exactly where the call was accepted, since no refusal's number is 0.
-- Assumes nothing.
use Rattle.std.specs.Prelude.{Ok, Err}
use Rattle.block.specs.Verdict.{Verdict, Accepted}
use Prim.Native.Nat.{ℕ, ◌≤◌}
use mathlib.Core.List.{List}
use mathlib.Core.Path.{◌≡◌, refl, ap, sym, subst, ◌∙◌}
use native.Mathlib.Omega.{arith}
use Rattle.block.specs.Record.{File, net_count}
use Rattle.block.specs.Refusals.{counts, read_checks, answer_to, read_of}
use Rattle.block.specs.Verdict.{verdict}
use Rattle.block.specs.declared.verdict.Refusal.{Refusal}
use Rattle.block.proofs.Numbered.{numbered}
use Rattle.block.proofs.Verdicts.{apart}
use Rattle.block.specs.Block.{input_count}
use Rattle.operation.specs.Numbers.{answer_numbers, counts_values, currents_values, order_values, found_values, read_numbers, search_numbers}
use Rattle.operation.specs.Operation.{answer_after}
use Rattle.split_order.specs.SplitOrder.{cone_order_made}
use Rattle.zimgurav.specs.Calls.{bench_values}
use Rattle.zimgurav.specs.Accepted.{refused_with, ZeroMeansAccepted, AcceptedCalls}

-- It is so of every answer that goes by the verdict.
answer_accepted : {T : Type 0} (values : T → List ℕ) (v : Verdict) (found : T) {numbers : List ℕ} → numbers ≡ answer_numbers values (answer_after v found)
    → ZeroMeansAccepted v numbers
answer_accepted values (Ok _) found told = record { zero_means = λ z. refl; zero_when = λ e. ap refused_with told }
answer_accepted values (Err r) found told = record {
  zero_means = λ z. absurd (omega (arith, numbered r.reason, ap refused_with told));
  zero_when = λ e. apart r e;
}

answer_is : (file : File) (v : Verdict) → answer_to file v ≡ answer_after v (counts (net_count file) (input_count file))
answer_is file (Ok _) = refl
answer_is file (Err r) = refl

read_accepted : (file : File) → ZeroMeansAccepted (verdict (read_checks file)) (read_numbers (read_of file))
unfolding read_of
read_accepted file = answer_accepted counts_values _ _ (ap read_numbers (answer_is file (verdict (read_checks file))))

pub accepted_calls : AcceptedCalls
unfolding cone_order_made
accepted_calls = record {
  read = read_accepted;
  bench = λ given records' numbers call. answer_accepted bench_values _ _ call.answered;
  envelope = λ given sheet' work' numbers call. answer_accepted currents_values _ _ call.answered;
  simulate = λ given sheet' work' numbers call. answer_accepted currents_values _ _ call.answered;
  cone_order_lem = λ file order order' numbers call. answer_accepted order_values _ _ call.answered;
  bound_order_lem = λ given order work' order' numbers call. answer_accepted order_values _ _ call.answered;
  search = λ given sheet' pattern' work' store' numbers call. answer_accepted found_values _ _ (call.numbered ∙ ap search_numbers call.searched.answered);
}
