-- Document 01's starred examples of pulses and of block F, as requests 4 and 5 have them.
use Rattle.std.specs.Prelude.{◌≡◌, ℕ, List, [], ◌∷◌, replicate}
use Rattle.laws.specs.Turn.{list_below}
use Rattle.excitation.specs.Excitation.{lh}
use Rattle.block.specs.Block.{frame}
use Rattle.block.specs.Examples.{block_f}
use Rattle.sheet.specs.Sheet.{drop_of, quiet_tick}
use Rattle.waveform.specs.Waveform.{simulation, envelope}
use Rattle.current.specs.Current.{sheet_of}
use Rattle.current.specs.Pulse.{pulse}
use Rattle.current.specs.Rounding.{nearest}

-- One node: resistances 2 and 1.
abbrev pub table_f : List ℕ
table_f = 2 ∷ 1 ∷ replicate 14 0

pub record CurrentExamples : Type 0 where
  -- ★ P 31, r 2, f 2: 0, 16, 31, 16, 0.
  pub pulse_31 : list_below 6 (pulse 31 2 2) ≡ 0 ∷ 16 ∷ 31 ∷ 16 ∷ 0 ∷ 0 ∷ []
  -- ★ P 7, r 3: 0, 2, 5, 7.
  pub pulse_7 : (f : ℕ) → list_below 4 (pulse 7 3 f) ≡ 0 ∷ 2 ∷ 5 ∷ 7 ∷ []
  -- ★ 33 / 2 gives 16.
  pub half_33 : nearest 33 2 ≡ 16
  -- ★ Block F's envelopes from tick 0: 0, 20, 10, 0 and 0, 16, 47, 47, 16, 0.
  pub envelope_0 : list_below 5 (sheet_of (envelope 10) block_f (frame block_f) 0) ≡ 0 ∷ 20 ∷ 10 ∷ 0 ∷ 0 ∷ []
  pub envelope_1 : list_below 7 (sheet_of (envelope 10) block_f (frame block_f) 1) ≡ 0 ∷ 16 ∷ 47 ∷ 47 ∷ 16 ∷ 0 ∷ 0 ∷ []
  -- ★ Both lh: 0, 16, 46, 46, 15 at contact 1, of which tick 2 is 31 + 15.
  pub both_lh : list_below 6 (sheet_of simulation block_f (lh ∷ lh ∷ []) 1) ≡ 0 ∷ 16 ∷ 46 ∷ 46 ∷ 15 ∷ 0 ∷ []
  -- ★ Drop 67, and 66 with both lh.
  pub envelope_drop_lem : drop_of table_f (sheet_of (envelope 10) block_f (frame block_f)) ≡ 67
  pub simulated_drop_lem : drop_of table_f (sheet_of simulation block_f (lh ∷ lh ∷ [])) ≡ 66
  -- Request 3: current flows last at tick 4, both ways, where the settling tick is 5.
  pub envelope_quiet : quiet_tick (sheet_of (envelope 10) block_f (frame block_f)) ≡ 4
  pub simulated_quiet : quiet_tick (sheet_of simulation block_f (lh ∷ lh ∷ [])) ≡ 4
