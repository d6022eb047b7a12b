-- When a call was accepted, by the first of its eight numbers (document 01, "Refusals in checking order"; operation/specs/Numbers.antt).
use Rattle.block.specs.Verdict.{Verdict, Accepted}
use Rattle.std.specs.Prelude.{ℕ, List, ◌≡◌, get_or}
use Rattle.block.specs.Record.{File}
use Rattle.block.specs.Refusals.{read_checks, read_of}
use Rattle.block.specs.Verdict.{verdict}
use Rattle.operation.specs.Numbers.{read_numbers}
use Rattle.bench.specs.Bench.{BenchArguments, bench_verdict}
use Rattle.simulator.specs.Simulate.{SimulateArguments, simulate_verdict}
use Rattle.envelope.specs.Envelope.{EnvelopeArguments, envelope_verdict}
use Rattle.split_order.specs.SplitOrder.{BoundOrderArguments, bound_order_verdict}
use Rattle.search.specs.Search.{SearchArguments, search_verdict}
use Rattle.zimgurav.specs.Calls.{BenchCalled, EnvelopeCalled, SimulateCalled, ConeOrderCalled, BoundOrderCalled, SearchCalled}

-- The first number of an answer: 0 where the call was accepted, else the refusal's number.
abbrev pub refused_with : List ℕ → ℕ
refused_with numbers = get_or numbers 0 0

-- The first number of an answer is 0 exactly where the verdict on the call's checks is Accepted.
pub record ZeroMeansAccepted (v : Verdict) (numbers : List ℕ) : Type 0 where
  pub zero_means : refused_with numbers ≡ 0 → v ≡ Accepted
  pub zero_when : v ≡ Accepted → refused_with numbers ≡ 0

-- It is so for each of the seven calls, whatever their arguments.
pub record AcceptedCalls : Type 0 where
  pub read : (file : File) → ZeroMeansAccepted (verdict (read_checks file)) (read_numbers (read_of file))
  pub bench : (given : BenchArguments) (records' numbers : List ℕ) → BenchCalled given records' numbers → ZeroMeansAccepted (bench_verdict given) numbers
  pub envelope : (given : EnvelopeArguments) (sheet' work' numbers : List ℕ) → EnvelopeCalled given sheet' work' numbers
      → ZeroMeansAccepted (envelope_verdict given) numbers
  pub simulate : (given : SimulateArguments) (sheet' work' numbers : List ℕ) → SimulateCalled given sheet' work' numbers
      → ZeroMeansAccepted (simulate_verdict given) numbers
  pub cone_order_lem : (file : File) (order order' numbers : List ℕ) → ConeOrderCalled file order order' numbers → ZeroMeansAccepted (verdict (read_checks file)) numbers
  pub bound_order_lem : (given : BoundOrderArguments) (order work' order' numbers : List ℕ) → BoundOrderCalled given order work' order' numbers
      → ZeroMeansAccepted (bound_order_verdict given) numbers
  pub search : (given : SearchArguments) (sheet' pattern' work' store' numbers : List ℕ) → SearchCalled given sheet' pattern' work' store' numbers
      → ZeroMeansAccepted (search_verdict given) numbers
