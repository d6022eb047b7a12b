-- Document 01's blocks S and F, a block of our own and gates of three pins, and what the definitions say of them.
use Rattle.std.specs.Prelude.{Ok, Err}
use Rattle.block.specs.declared.verdict.Reason.TheVariants.{WrongLength, NoFirstInput, PinNotBelow}
use Rattle.block.specs.Refusals.{counts}
use Rattle.std.specs.Prelude.{◌≡◌, [], ◌∷◌, map, replicate}
use Rattle.excitation.specs.Excitation.{l, h, lh}
use Rattle.excitation.specs.UncertaintySet.{code, decode}
use Rattle.block.specs.Record.{File, contact, peak_lh, peak_hl}
use Rattle.block.specs.Kind.{NAND, NOR, XNOR, rule_of}
use Rattle.block.specs.Gate.{gate_excitation, gate_set}
use Rattle.block.specs.Block.{arrivals, frame, pattern_count, cone_size, settling_tick}
use Rattle.block.specs.Verdict.{refusal}
use Rattle.block.specs.Refusals.{read_of}

-- An input of set 15; BUF and NOT of it, each with D 1, r 1, f 1, peak 10 for lh, all at contact 0.
abbrev pub block_s : File
block_s =
    1 ∷ 0 ∷ 0 ∷ 0 ∷ 0 ∷ 0 ∷ 0 ∷ 0 ∷ 0 ∷ 0 ∷ 0 ∷ 0 ∷ 0 ∷ 0 ∷ 0 ∷ 0 ∷ 0 ∷ 0 ∷ 15 ∷ 0
    ∷ 9 ∷ 0 ∷ 1 ∷ 1 ∷ 0 ∷ 0 ∷ 0 ∷ 0 ∷ 0 ∷ 0 ∷ 0 ∷ 0 ∷ 1 ∷ 1 ∷ 10 ∷ 0 ∷ 0 ∷ 0 ∷ 0 ∷ 0
    ∷ 8 ∷ 0 ∷ 1 ∷ 1 ∷ 0 ∷ 0 ∷ 0 ∷ 0 ∷ 0 ∷ 0 ∷ 0 ∷ 0 ∷ 1 ∷ 1 ∷ 10 ∷ 0 ∷ 0 ∷ 0 ∷ 0 ∷ 0 ∷ []

-- Inputs 0, 1, sets 15; net 2 NOT of 0, D 1, contact 0, r 1, f 2, lh 10, hl 20; net 3 NAND of 1, 2, D 2, contact 1, r 2, f 2,
-- lh 30, hl 31.
abbrev pub block_f : File
block_f =
    1 ∷ 0 ∷ 0 ∷ 0 ∷ 0 ∷ 0 ∷ 0 ∷ 0 ∷ 0 ∷ 0 ∷ 0 ∷ 0 ∷ 0 ∷ 0 ∷ 0 ∷ 0 ∷ 0 ∷ 0 ∷ 15 ∷ 0
    ∷ 1 ∷ 0 ∷ 0 ∷ 0 ∷ 0 ∷ 0 ∷ 0 ∷ 0 ∷ 0 ∷ 0 ∷ 0 ∷ 0 ∷ 0 ∷ 0 ∷ 0 ∷ 0 ∷ 0 ∷ 0 ∷ 15 ∷ 0
    ∷ 8 ∷ 0 ∷ 1 ∷ 1 ∷ 0 ∷ 0 ∷ 0 ∷ 0 ∷ 0 ∷ 0 ∷ 0 ∷ 0 ∷ 1 ∷ 2 ∷ 10 ∷ 0 ∷ 20 ∷ 0 ∷ 0 ∷ 0
    ∷ 3 ∷ 1 ∷ 2 ∷ 2 ∷ 1 ∷ 0 ∷ 2 ∷ 0 ∷ 0 ∷ 0 ∷ 0 ∷ 0 ∷ 2 ∷ 2 ∷ 30 ∷ 0 ∷ 31 ∷ 0 ∷ 0 ∷ 0 ∷ []

-- A block of our own, whose fields differ from each other: inputs of sets 1, 6 and 13; net 3 AND of 0, 1, D 3, contact 2, r 4, f 9,
-- lh 258, hl 515; net 4 OR of 0, 3, D 2, r 1, f 2; net 5 XOR of 3, 4, D 1, r 1, f 1.
abbrev pub block_r : File
block_r =
    1 ∷ 0 ∷ 0 ∷ 0 ∷ 0 ∷ 0 ∷ 0 ∷ 0 ∷ 0 ∷ 0 ∷ 0 ∷ 0 ∷ 0 ∷ 0 ∷ 0 ∷ 0 ∷ 0 ∷ 0 ∷ 1 ∷ 0
    ∷ 1 ∷ 0 ∷ 0 ∷ 0 ∷ 0 ∷ 0 ∷ 0 ∷ 0 ∷ 0 ∷ 0 ∷ 0 ∷ 0 ∷ 0 ∷ 0 ∷ 0 ∷ 0 ∷ 0 ∷ 0 ∷ 6 ∷ 0
    ∷ 1 ∷ 0 ∷ 0 ∷ 0 ∷ 0 ∷ 0 ∷ 0 ∷ 0 ∷ 0 ∷ 0 ∷ 0 ∷ 0 ∷ 0 ∷ 0 ∷ 0 ∷ 0 ∷ 0 ∷ 0 ∷ 13 ∷ 0
    ∷ 2 ∷ 2 ∷ 3 ∷ 2 ∷ 0 ∷ 0 ∷ 1 ∷ 0 ∷ 0 ∷ 0 ∷ 0 ∷ 0 ∷ 4 ∷ 9 ∷ 2 ∷ 1 ∷ 3 ∷ 2 ∷ 0 ∷ 0
    ∷ 4 ∷ 0 ∷ 2 ∷ 2 ∷ 0 ∷ 0 ∷ 3 ∷ 0 ∷ 0 ∷ 0 ∷ 0 ∷ 0 ∷ 1 ∷ 2 ∷ 0 ∷ 0 ∷ 0 ∷ 0 ∷ 0 ∷ 0
    ∷ 6 ∷ 0 ∷ 1 ∷ 2 ∷ 3 ∷ 0 ∷ 4 ∷ 0 ∷ 0 ∷ 0 ∷ 0 ∷ 0 ∷ 1 ∷ 1 ∷ 0 ∷ 0 ∷ 0 ∷ 0 ∷ 0 ∷ 0 ∷ []

-- An input, and a BUF whose pin is its own net and whose delay is 0: checks 8 and 9 both fail.
abbrev pub two_faults : File
two_faults =
    1 ∷ 0 ∷ 0 ∷ 0 ∷ 0 ∷ 0 ∷ 0 ∷ 0 ∷ 0 ∷ 0 ∷ 0 ∷ 0 ∷ 0 ∷ 0 ∷ 0 ∷ 0 ∷ 0 ∷ 0 ∷ 15 ∷ 0
    ∷ 9 ∷ 0 ∷ 0 ∷ 1 ∷ 1 ∷ 0 ∷ 0 ∷ 0 ∷ 0 ∷ 0 ∷ 0 ∷ 0 ∷ 1 ∷ 1 ∷ 0 ∷ 0 ∷ 0 ∷ 0 ∷ 0 ∷ 0 ∷ []

pub record BlockExamples : Type 0 where
  -- Read.
  pub read_S : read_of block_s ≡ Ok (counts 3 1)
  pub read_F : read_of block_f ≡ Ok (counts 4 2)
  pub read_R : read_of block_r ≡ Ok (counts 6 3)
  pub read_empty : read_of [] ≡ Err (refusal NoFirstInput 0)
  pub read_19 : read_of (replicate 19 0) ≡ Err (refusal WrongLength 0)
  pub read_faults : read_of two_faults ≡ Err (refusal PinNotBelow 1)
  -- Contacts and peaks, arrivals, the frame and N.
  pub fields_F : (contact block_f 3 ≡ 1) × (peak_lh block_f 3 ≡ 30) × (peak_hl block_f 3 ≡ 31)
  pub fields_R : (contact block_r 3 ≡ 2) × (peak_lh block_r 3 ≡ 258) × (peak_hl block_r 3 ≡ 515)
  pub arrivals_F : arrivals block_f 4 ≡ 0 ∷ 0 ∷ 1 ∷ 3 ∷ []
  pub arrivals_R : arrivals block_r 6 ≡ 0 ∷ 0 ∷ 0 ∷ 3 ∷ 5 ∷ 6 ∷ []
  pub frame_R : map code (frame block_r) ≡ 1 ∷ 6 ∷ 13 ∷ []
  pub patterns_F : pattern_count block_f ≡ 16
  pub patterns_R : pattern_count block_r ≡ 6
  -- ★ Cone of net 0: 2.
  pub cone_S : cone_size block_s 0 ≡ 2
  pub cones_F : (cone_size block_f 0 ≡ 2) × (cone_size block_f 1 ≡ 1)
  -- Net 0 feeds net 5 on two ways.
  pub cones_R : (cone_size block_r 0 ≡ 3) × (cone_size block_r 2 ≡ 0)
  -- Settling ticks.
  pub settling_S : settling_tick block_s ≡ 2
  pub settling_F : settling_tick block_f ≡ 5
  pub settling_R : settling_tick block_r ≡ 13
  -- The final result is turned over, and no join on the way.
  pub nand_of_three : gate_excitation (rule_of NAND) h (h ∷ h ∷ []) ≡ l
  pub nor_of_three : gate_excitation (rule_of NOR) l (l ∷ l ∷ []) ≡ h
  pub xnor_of_three : gate_excitation (rule_of XNOR) lh (h ∷ l ∷ []) ≡ lh
  pub nand_sets_of_three : code (gate_set (rule_of NAND) (decode 12) (decode 2 ∷ decode 2 ∷ [])) ≡ 12
