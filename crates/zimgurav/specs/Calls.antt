-- What the calls from C promise (document 01, "List of forms by place", and "What the checker must hold us to", 1; requests 1, 3 and 6):
-- the eight numbers of the answer, and each buffer as the call leaves it.
use Rattle.std.specs.Prelude.{Result, Ok, Err}
use Rattle.block.specs.declared.verdict.Refusal.{Refusal}
use Rattle.operation.specs.declared.Found.{Found}
use Rattle.std.specs.Prelude.{ℕ, List, [], ◌∷◌, ◌≡◌}
use Rattle.block.specs.Record.{File, net_count}
use Rattle.block.specs.Refusals.{read_checks}
use Rattle.block.specs.Verdict.{verdict}
use Rattle.operation.specs.Numbers.{answer_numbers, currents_numbers, order_numbers, search_numbers}
use Rattle.operation.specs.Operation.{answer_after, buffer_after, WorkAfter}
use Rattle.operation.specs.SplitOrder.{list_bytes, split_order}
use Rattle.bench.specs.Bench.{BenchArguments, bench_records, bench_verdict, overlaid}
use Rattle.sheet.specs.Sheet.{sheet_words}
use Rattle.simulator.specs.Simulate as simulate
use Rattle.envelope.specs.Envelope as envelope
use Rattle.cases.specs.SplitOrder.{cone_order}
use Rattle.split_order.specs.SplitOrder.{cone_order_made, BoundOrderArguments, bound_order_verdict, frame_order}
use Rattle.search.specs.Search.{SearchArguments, Searched}

-- The version of the calls: a number that goes up with every change of what a call takes, answers or writes.
abbrev pub version : ℕ
version = 6

-- Bench: the record count.
abbrev pub bench_values : ℕ → List ℕ
bench_values count = count ∷ []

abbrev pub bench_numbers : Result ℕ Refusal → List ℕ
bench_numbers = answer_numbers bench_values

-- Bench: the numbers of its answer, and its record buffer.
pub record BenchCalled (given : BenchArguments) (records' numbers : List ℕ) : Type 0 where
  pub answered : numbers ≡ bench_numbers (answer_after (bench_verdict given) (net_count (bench_records given)))
  pub written : records' ≡ buffer_after (bench_verdict given) (overlaid (bench_records given) given.records) given.records

-- Envelope: the numbers of its answer, and its buffers.
pub record EnvelopeCalled (given : envelope.EnvelopeArguments) (sheet' work' numbers : List ℕ) : Type 0 where
  pub answered : numbers ≡ currents_numbers (envelope.envelope_answer given)
  pub written : sheet' ≡ buffer_after (envelope.envelope_verdict given) (sheet_words (envelope.given_sheet given)) given.sheet
  pub kept : WorkAfter (envelope.envelope_verdict given) given.work work'

-- Simulate: the numbers of its answer, and its buffers.
pub record SimulateCalled (given : simulate.SimulateArguments) (sheet' work' numbers : List ℕ) : Type 0 where
  pub answered : numbers ≡ currents_numbers (simulate.simulate_answer given)
  pub written : sheet' ≡ buffer_after (simulate.simulate_verdict given) (sheet_words (simulate.given_sheet given)) given.sheet
  pub kept : WorkAfter (simulate.simulate_verdict given) given.work work'

-- The first maker of a list of inputs: the numbers of its answer, and the lent list.
pub record ConeOrderCalled (file : File) (order order' numbers : List ℕ) : Type 0 where
  pub answered : numbers ≡ order_numbers (cone_order_made file)
  pub written : order' ≡ buffer_after (verdict (read_checks file)) (list_bytes (cone_order file)) order

-- The second maker: the numbers of its answer, the lent list, and its work buffer.
pub record BoundOrderCalled (given : BoundOrderArguments) (order work' order' numbers : List ℕ) : Type 0 where
  pub answered : numbers ≡ order_numbers (answer_after (bound_order_verdict given) (split_order (frame_order given.file given.hops given.table)))
  pub written : order' ≡ buffer_after (bound_order_verdict given) (list_bytes (frame_order given.file given.hops given.table)) order
  pub kept : WorkAfter (bound_order_verdict given) given.work work'

-- Search: its promise holds with an answer whose numbers these are.
pub record SearchCalled (given : SearchArguments) (sheet' pattern' work' store' numbers : List ℕ) : Type 0 where
  pub answer : Result Found Refusal
  pub searched : Searched given answer sheet' pattern' work' store'
  pub numbered : numbers ≡ search_numbers answer
