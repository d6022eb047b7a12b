-- What the code reads from and writes to the case store (for document 01, "Search").
use Rattle.std.specs.Prelude.{ℕ, ◌+◌, ◌*◌, ◌≤◌, ◌<◌, List, ◌++◌, ◌≡◌, length, get_or, drop, set, replicate}
use Rattle.laws.specs.Rewritten.{Rewritten}
use Rattle.laws.specs.Turn.{list_below}
use Rattle.numbers.specs.Words.{word_from}
use Rattle.excitation.specs.UncertaintySet.{code, decode, single, sets_in}
use Rattle.excitation.specs.declared.Excitation.{Excitation}
use Rattle.block.specs.Limits.{drop_limit}
use Rattle.cases.specs.Case.{first_allowed}
use Rattle.cases.specs.Search.{StoredCase}
use Rattle.cases.specs.Store.{number_bytes}

-- The upper number of case k, and the case with its upper number, as the store's bytes have them.
abbrev pub upper_in : List ℕ → ℕ → ℕ
upper_in store k = word_from 3 store (72 * k + 64)

abbrev pub case_in : ℕ → List ℕ → ℕ → StoredCase
case_in inputs store k = record { sets = sets_in inputs (drop (72 * k) store); upper = upper_in store k }

-- The first n cases.
unfoldable pub cases_in : ℕ → List ℕ → ℕ → List StoredCase
cases_in inputs store n = list_below n (case_in inputs store)

-- The store has the whole record of a case, and the case is one of those that a budget of 10,000 can make.
pub record HasCase (store : List ℕ) (k : ℕ) : Type 0 where
  pub whole : 72 * k + 72 ≤ length store
  pub numbered : k < 30001

-- The bytes of a case's sets: one for each input, which codes a set that is not empty, and 0 past the inputs.
pub record SetCodes (inputs : ℕ) (codes : List ℕ) : Type 0 where
  pub low : (net : ℕ) → net < inputs → 1 ≤ get_or codes net 0
  pub high : (net : ℕ) → net < inputs → get_or codes net 0 ≤ 15
  pub none : (j : ℕ) → inputs ≤ j → j < 64 → get_or codes j 0 ≡ 0

-- The bytes of a child's sets: those of its parent, but for the input that is split, which has one excitation.
abbrev pub child_codes : List ℕ → ℕ → Excitation → List ℕ
child_codes parent input e = set parent input (code (single e))

-- Codes of the single sets of the probe of the case with these codes: one for each input, and 0 past the inputs.
abbrev pub ProbeCodes : ℕ → List ℕ → List ℕ → Type 0
ProbeCodes inputs codes = Rewritten (λ net. code (single (first_allowed (decode (get_or codes net 0))))) 0 inputs (replicate 64 0)

-- A store whose first n records are those of cases.
pub record HasCases (inputs : ℕ) (store : List ℕ) (n : ℕ) : Type 0 where
  pub whole : 72 * n ≤ length store
  pub few : n ≤ 30001
  pub codes : (k : ℕ) → k < n → SetCodes inputs (drop (72 * k) store)
  pub upper_low : (k : ℕ) → k < n → upper_in store k < drop_limit
  pub upper_bytes : (k : ℕ) → k < n → (j : ℕ) → j < 8 → get_or store (72 * k + 64 + j) 0 ≡ get_or (number_bytes 8 (upper_in store k)) j 0

-- Byte j of the record with these 64 bytes of sets and this upper number.
unfoldable pub record_byte : List ℕ → ℕ → ℕ → ℕ
record_byte codes upper j = get_or (codes ++ number_bytes 8 upper) j 0
