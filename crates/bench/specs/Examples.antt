-- Bench texts, and what the definitions say of them: each form of a line, each refusal, and the records of c17.
use Rattle.std.specs.Prelude.{ℕ, zero, suc, ◌+◌, false, List, [], ◌∷◌, ◌++◌, ◌≡◌, length, take, drop, set, Err}
use Prim.Native.String.{String}
use Rattle.laws.specs.Ascii.{ascii}
use Rattle.laws.specs.Turn.{list_below}
use Rattle.block.specs.Record.{File, net_count, kind, pin_count, pin}
use Rattle.block.specs.Verdict.{refusal, verdict, Verdict, Accepted}
use Rattle.block.specs.declared.verdict.Reason.TheVariants.{NoFirstInput, MisplacedInput, OutOfRange, LateArrival, WrongBuffer, WrongLine, WrongName}
use Rattle.netlist.specs.Forms.{empty, input, output, gate, none, line_form, forms_of, kind_named}
use Rattle.bench.specs.Checks.{size_checks, rows_from, lines_from}
use Rattle.bench.specs.Records.{gate_record}
use Rattle.bench.specs.Bench.{BenchArguments, bench_records, text_checks, bench_verdict}

-- A line with its end.
abbrev pub line : String → List ℕ
line words = ascii words ++ (10 ∷ [])

-- Eight rows: byte j of row r is r + j.
abbrev pub row : ℕ → List ℕ
row r = r ∷ (r + 1) ∷ (r + 2) ∷ (r + 3) ∷ (r + 4) ∷ (r + 5) ∷ (r + 6) ∷ (r + 7) ∷ []

abbrev pub rows : List ℕ
rows = row 0 ++ row 1 ++ row 2 ++ row 3 ++ row 4 ++ row 5 ++ row 6 ++ row 7

-- A call with these rows, and the records of its text.
abbrev pub call : List ℕ → List ℕ → BenchArguments
call text records = record { text = text; list = rows; records = records }

abbrev pub records : List ℕ → File
records text = bench_records (call text [])

-- The verdict on lines alone, and on lines and records.
abbrev pub on_lines : List ℕ → Verdict
on_lines text = verdict (lines_from 1 [] false (forms_of text))

abbrev pub on_text : List ℕ → Verdict
on_text text = verdict (text_checks (call text []))

-- The benchmark circuit c17.
abbrev pub c17 : List ℕ
c17 =
    line "# c17" ++ line "INPUT(1)" ++ line "INPUT(2)" ++ line "INPUT(3)" ++ line "INPUT(6)" ++ line "INPUT(7)" ++ line "OUTPUT(22)"
    ++ line "OUTPUT(23)" ++ line "10 = NAND(1, 3)" ++ line "11 = NAND(3, 6)" ++ line "16 = NAND(2, 11)" ++ line "19 = NAND(11, 7)"
    ++ line "22 = NAND(10, 16)" ++ line "23 = NAND(16, 19)"

-- Two inputs and a gate whose pins are written in the other order.
abbrev pub turned : List ℕ
turned = line "INPUT(a)" ++ line "INPUT(b)" ++ line "c=XOR(b,a)"

-- The verdict on a text whose buffers have the longest delay, 63; and a chain of four of them.
abbrev pub on_slow_text : List ℕ → Verdict
on_slow_text text = verdict (text_checks (record { text = text; list = set rows 57 63; records = [] }))

abbrev pub chain : List ℕ
chain = line "INPUT(a)" ++ line "b=BUF(a)" ++ line "c=BUF(b)" ++ line "d=BUF(c)" ++ line "e=BUF(d)"

-- Lines of n inputs, named by a letter and a digit, and lines of 64.
unfoldable pub input_lines : ℕ → ℕ → List ℕ
input_lines letter zero = []
input_lines letter (suc n) = input_lines letter n ++ (ascii "INPUT(" ++ (letter ∷ (48 + n) ∷ line ")"))

abbrev pub inputs : List ℕ
inputs =
    input_lines 97 8 ++ input_lines 98 8 ++ input_lines 99 8 ++ input_lines 100 8 ++ input_lines 101 8 ++ input_lines 102 8 ++ input_lines 103 8
    ++ input_lines 104 8

pub record BenchExamples : Type 0 where
  -- The three forms.
  pub input_line : line_form (ascii "INPUT(a)") ≡ input (ascii "a")
  pub output_line : line_form (ascii "OUTPUT(a)") ≡ output (ascii "a")
  pub gate_line : line_form (ascii "c=NAND(a,b)") ≡ gate (ascii "c") (ascii "NAND") (ascii "a" ∷ ascii "b" ∷ [])
  -- Bytes 9, 13 and 32 inside a word and a name.
  pub blanks_in_word : line_form (ascii "I" ++ (9 ∷ ascii "N" ++ (13 ∷ ascii "PU T(a)"))) ≡ input (ascii "a")
  pub blanks_in_name : line_form (ascii "INPUT(a" ++ (9 ∷ ascii "b" ++ (13 ∷ ascii "c d)"))) ≡ input (ascii "abcd")
  -- A comment after a line and alone, and a line of nothing and of blanks.
  pub comment_after : line_form (ascii "INPUT(a)#(b)") ≡ input (ascii "a")
  pub comment_alone : line_form (ascii "#INPUT(a)") ≡ empty
  pub nothing : (line_form [] ≡ empty) × (line_form (9 ∷ 13 ∷ 32 ∷ []) ≡ empty)
  -- INPUT is a name like any other before `=`.
  pub input_named : line_form (ascii "INPUT=NOT(a)") ≡ gate (ascii "INPUT") (ascii "NOT") (ascii "a" ∷ [])
  pub no_form : (line_form (ascii "INPUT(a") ≡ none) × (line_form (ascii "INPUT(a,b)") ≡ none) × (line_form (ascii "a") ≡ none)
  -- The last line also ends at the text's end, and an end there begins no line more.
  pub last_line : forms_of (line "INPUT(a)" ++ line "" ++ ascii "OUTPUT(a)") ≡ input (ascii "a") ∷ empty ∷ output (ascii "a") ∷ []
  pub last_end : forms_of (line "INPUT(a)") ≡ input (ascii "a") ∷ []
  pub kind_words_lem : (kind_named (ascii "AND") ≡ 2) × (kind_named (ascii "BUF") ≡ 9) × (kind_named (ascii "and") ≡ 0)
  pub buff : kind_named (ascii "BUFF") ≡ 9
  -- Refusal 17: no form, a kind in small letters, five pins, an INPUT after a gate, a name of 17 letters.
  pub refused_form : on_lines (line "INPUT(a)" ++ line "b=NOT(a)c") ≡ Err (refusal WrongLine 2)
  pub refused_kind : on_lines (line "INPUT(a)" ++ line "b=not(a)") ≡ Err (refusal WrongLine 2)
  pub refused_pins : on_lines (line "INPUT(a)" ++ line "b=AND(a,a,a,a,a)") ≡ Err (refusal WrongLine 2)
  pub accepted_pins : on_lines (line "INPUT(a)" ++ line "b=AND(a,a,a,a)") ≡ Accepted
  pub refused_input : on_lines (line "INPUT(a)" ++ line "b=NOT(a)" ++ line "" ++ line "INPUT(c)") ≡ Err (refusal WrongLine 4)
  pub refused_long_name : on_lines (line "INPUT(abcdefghijklmnopq)") ≡ Err (refusal WrongLine 1)
  pub accepted_long_name : on_lines (line "INPUT(abcdefghijklmnop)") ≡ Accepted
  -- Refusal 18: a name unknown, given twice, or a gate's own. On one line 17 comes first.
  pub refused_unknown : on_lines (line "INPUT(a)" ++ line "b=NOT(A)") ≡ Err (refusal WrongName 2)
  pub refused_twice : on_lines (line "INPUT(a)" ++ line "a=NOT(a)") ≡ Err (refusal WrongName 2)
  pub refused_own : on_lines (line "INPUT(a)" ++ line "b=NOT(b)") ≡ Err (refusal WrongName 2)
  pub refused_both : on_lines (line "INPUT(a)" ++ line "a=AND(b)") ≡ Err (refusal WrongLine 2)
  pub accepted_output : on_lines (line "OUTPUT(b)") ≡ Accepted
  -- Refusals 15, of which place 1 comes first, and 9, with the row as place.
  pub refused_buffer : (verdict (size_checks 64 20479) ≡ Err (refusal WrongBuffer 1)) × (verdict (size_checks 0 0) ≡ Err (refusal WrongBuffer 1))
  pub refused_list : (verdict (size_checks 63 20480) ≡ Err (refusal WrongBuffer 2)) × (verdict (size_checks 65 20480) ≡ Err (refusal WrongBuffer 2))
  pub refused_row : verdict (rows_from (set rows 25 0) 0 8) ≡ Err (refusal OutOfRange 3)
  -- What is lent comes before the text.
  pub refused_call : bench_verdict (call (line "a") []) ≡ Err (refusal WrongBuffer 1)
  -- Refusal 3, as Read makes it of no record.
  pub refused_empty : (on_text [] ≡ Err (refusal NoFirstInput 0)) × (on_text (line "OUTPUT(a)") ≡ Err (refusal NoFirstInput 0))
  -- Refusals 5, of a 65th input, and 10, of the first gate that arrives after tick 255, as Read makes them, each with its net.
  pub refused_inputs : (on_text inputs ≡ Accepted) × (on_text (inputs ++ line "INPUT(i)") ≡ Err (refusal MisplacedInput 64))
  pub refused_arrival : (on_slow_text chain ≡ Accepted) × (on_slow_text (chain ++ line "f=BUF(e)") ≡ Err (refusal LateArrival 5))
  -- Each byte of three records: pins as written, and the row of the gate's kind.
  pub turned_records : records turned
      ≡ (1 ∷ 0 ∷ 0 ∷ 0 ∷ 0 ∷ 0 ∷ 0 ∷ 0 ∷ 0 ∷ 0 ∷ 0 ∷ 0 ∷ 0 ∷ 0 ∷ 0 ∷ 0 ∷ 0 ∷ 0 ∷ 15 ∷ 0
      ∷ 1 ∷ 0 ∷ 0 ∷ 0 ∷ 0 ∷ 0 ∷ 0 ∷ 0 ∷ 0 ∷ 0 ∷ 0 ∷ 0 ∷ 0 ∷ 0 ∷ 0 ∷ 0 ∷ 0 ∷ 0 ∷ 15 ∷ 0
      ∷ 6 ∷ 4 ∷ 5 ∷ 2 ∷ 1 ∷ 0 ∷ 0 ∷ 0 ∷ 0 ∷ 0 ∷ 0 ∷ 0 ∷ 6 ∷ 7 ∷ 8 ∷ 9 ∷ 10 ∷ 11 ∷ 0 ∷ 0 ∷ [])
  pub buff_record : kind (records (line "INPUT(a)" ++ line "b=BUFF(a)")) 1 ≡ 9
  -- The low byte of a pin's net comes first.
  pub low_byte_first : take 2 (drop 4 (gate_record rows 8 1 (λ p. 300))) ≡ 44 ∷ 1 ∷ []
  -- c17: five inputs and six gates, which are 10, 11, 16, 19, 22 and 23.
  pub c17_accepted : (buffer : List ℕ) → length buffer ≡ 20480 → bench_verdict (call c17 buffer) ≡ Accepted
  pub c17_count : net_count (records c17) ≡ 11
  pub c17_kinds : list_below 11 (kind (records c17)) ≡ 1 ∷ 1 ∷ 1 ∷ 1 ∷ 1 ∷ 3 ∷ 3 ∷ 3 ∷ 3 ∷ 3 ∷ 3 ∷ []
  pub c17_pin_counts : list_below 11 (pin_count (records c17)) ≡ 0 ∷ 0 ∷ 0 ∷ 0 ∷ 0 ∷ 2 ∷ 2 ∷ 2 ∷ 2 ∷ 2 ∷ 2 ∷ []
  pub c17_first_pins : list_below 6 (λ g. pin (records c17) (5 + g) 0) ≡ 0 ∷ 2 ∷ 1 ∷ 6 ∷ 5 ∷ 7 ∷ []
  pub c17_second_pins : list_below 6 (λ g. pin (records c17) (5 + g) 1) ≡ 2 ∷ 3 ∷ 6 ∷ 4 ∷ 7 ∷ 8 ∷ []
