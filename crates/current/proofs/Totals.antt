-- Laws of the total of a tick: what the 16 contacts draw together. A gate's current is in it once.
-- Assumes nothing.
use Rattle.std.proofs.Common.{◌≡◌, ℕ, ◌+◌, ◌<◌, ◌≤◌, cond, eqb, List, arith}
use borrow.Table.Steps.{cases}
use Rattle.laws.specs.Below.{sum_below}
use Rattle.laws.proofs.Below.{sum_one_more}
use Rattle.block.specs.Limits.{gate_limit}
use Rattle.block.specs.declared.Gate.{Gate}
use Rattle.sheet.specs.Changes.{restored_in}
use Rattle.current.specs.Current.{Transition, gate_current}
use Rattle.current.specs.Drawing.{Drawn}

-- A gate that is drawn adds at most what a gate draws.
module _ {gate : Gate} {transitions : List Transition} {words after : List ℕ} (drawn : Drawn gate transitions words after) (t : ℕ) (tick : t < 512) where
  word_drawn : (c : ℕ) → c < 16 → restored_in after c t ≤ restored_in words c t + cond (eqb gate.contact c) gate_limit 0
  word_drawn c h =
      let most = drawn.most t in
      let at = drawn.at c t h tick in
      cases (eqb gate.contact c)
      (λ b. let added : restored_in after c t ≡ restored_in words c t + gate_current gate transitions t = rw b at at in rw b (omega arith))
      (λ b. let same : restored_in after c t ≡ restored_in words c t + 0 = rw b at at in rw b (omega arith))

  pub total_drawn : sum_below 16 (λ c. restored_in after c t) ≤ sum_below 16 (λ c. restored_in words c t) + gate_limit
  total_drawn = sum_one_more 16 (λ c. restored_in words c t) (λ c. restored_in after c t) gate.contact gate_limit word_drawn
