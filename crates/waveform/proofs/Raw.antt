-- Laws of a gate's raw sets: what it makes of its pins, later by its delay.
-- Assumes nothing.
use Prim.Native.Nat.{ℕ, ◌+◌, ◌-◌, ◌*◌, ◌≤◌, ◌<◌}
use mathlib.Core.Bool.{cond}
use mathlib.Core.List.{List}
use mathlib.Core.Path.{◌≡◌, ap, sym, ◌∙◌, fun_ext}
use native.Mathlib.Omega.{arith}
use lib.Dec.{ltb}
use borrow.Author.Tests.{ltb-true, ltb-false, le-ltb}
use borrow.Table.Steps.{cases}
use Rattle.laws.specs.Settled.{SettledAfter}
use Rattle.excitation.specs.UncertaintySet.{decode}
use Rattle.block.specs.View.{pin_of}
use Rattle.block.specs.declared.Gate.{Gate}
use Rattle.parts.specs.Parts.{set_at}
use Rattle.parts.specs.declared.Part.{Part}
use Rattle.rows.specs.Rows.{set_in, PartWritten, RowMade}
use Rattle.rows.proofs.Rows.{part_before, row_next, row_unread, first_before, next_before, delayed_part}
use Rattle.waveform.specs.Pins.{made_before, made_at, PartIs, raw_at, held_from, RowReady}
use Rattle.waveform.specs.Waveform.{envelope, gate_from}
use Rattle.waveform.proofs.Gates.{gate_same}
use Rattle.waveform.proofs.Held.{row_then}

-- Where every pin has settled, what the gate makes of them has, and its raw sets have when its delay has passed.
module _ (gate : Gate) (work : List ℕ) (last : ℕ) (some : 1 ≤ gate.used)
    (pins : (p : ℕ) → p < gate.used → SettledAfter last (set_in work (pin_of gate p))) where
  pub made_settled : SettledAfter last (made_at gate work)
  unfolding made_at
  made_settled = record { same = λ t h below. gate_same (envelope 1) gate _ _ some (λ p l. (pins p l).same t h below) }

  pub raw_settled : SettledAfter (last + gate.delay) (raw_at gate work)
  raw_settled = record {
    same = λ t h below.
        rw (le-ltb t gate.delay (omega arith), le-ltb 255 gate.delay (omega arith))
        (made_settled.same (t - gate.delay) (omega arith) (omega arith) ∙ sym (made_settled.same (255 - gate.delay) (omega arith) (omega arith)));
  }

  -- A gate that has settled before the last tick has there what it makes of its pins there.
  pub raw_end : gate.delay ≤ 255 → last + gate.delay < 255 → raw_at gate work 255 ≡ made_at gate work 255
  raw_end fits soon = rw (le-ltb 255 gate.delay fits) (made_settled.same (255 - gate.delay) (omega arith) (omega arith))

-- What is made of the pins in the part before, which for the first part is the set before tick 0.
module _ (gate : Gate) (given : List ℕ) (before : ℕ) where
  abbrev pub Prior : ℕ → Part → Type 0
  Prior part = PartIs (part_before (made_at gate given) gate.delay before) (64 * part)

  pub prior_first : {earlier : Part} → ((k : ℕ) → k < 64 → set_at earlier k ≡ decode before) → Prior 0 earlier
  prior_first held = record { at = λ k h. held k h ∙ first_before _ _ _ k h }

  pub prior_next : (part : ℕ) {here : Part} → PartIs (made_at gate given) (64 * part) here → Prior (part + 1) here
  prior_next part made = record { at = λ k h. made.at k h ∙ next_before (made_at gate given) gate.delay before part k h }

  pub prior_last : (parts : ℕ) {earlier : Part} → 1 ≤ parts → Prior parts earlier → PartIs (made_at gate given) (64 * (parts - 1)) earlier
  prior_last parts some prior = record {
    at = λ k h.
        let e : parts ≡ parts - 1 + 1 = omega arith in
        prior.at k h ∙ ap (λ n. part_before (made_at gate given) gate.delay before (64 * n + k)) e
        ∙ sym (next_before (made_at gate given) gate.delay before (parts - 1) k h);
  }

-- A row of raw sets made a part at a time, over the row that the gate's net had.
module _ (gate : Gate) (net : ℕ) (given : List ℕ) where
  -- What is made of the pins in the next part is what was made of them at first: this part is not written yet, of any net.
  made_unread : (part : ℕ) {now : List ℕ} → RowMade (raw_at gate given) net (64 * part) given now → part < 4
      → (k : ℕ) → k < 64 → made_at gate now (64 * part + k) ≡ made_at gate given (64 * part + k)
  unfolding made_at
  made_unread part w l k h = ap (gate_from (envelope 1) gate) (fun_ext (λ p. row_unread _ net part w l (pin_of gate p) k h))

  pub made_here : (part : ℕ) {now : List ℕ} {here : Part} → part < 4 → RowMade (raw_at gate given) net (64 * part) given now
      → PartIs (made_at gate now) (64 * part) here → PartIs (made_at gate given) (64 * part) here
  made_here part l made next = record { at = λ k h. next.at k h ∙ made_unread part made l k h }

  pub raw_next : (before part : ℕ) {earlier here moved : Part} {now after : List ℕ} → gate.delay < 64 → decode before ≡ made_before gate given
      → RowMade (raw_at gate given) net (64 * part) given now → Prior gate given before part earlier → PartIs (made_at gate given) (64 * part) here
      → ((k : ℕ) → k < 64 → set_at moved k ≡ cond (ltb k gate.delay) (set_at earlier (k + 64 - gate.delay)) (set_at here (k - gate.delay)))
      → PartWritten moved (160 * net + 32 * part) now after → RowMade (raw_at gate given) net (64 * (part + 1)) given after
  raw_next before part {earlier} {here} {moved} high first made prior next shifted written =
      row_next _ net part moved made written
      (λ k h. delayed_part (made_at gate given) gate.delay before part k earlier here moved high prior.at next.at (shifted k h) h
      ∙ ap (λ s. cond (ltb (64 * part + k) gate.delay) s (made_at gate given (64 * part + k - gate.delay))) first)

  -- Once the gate has settled, the last set of the part before is the one that it holds.
  module _ (parts : ℕ) (earlier : Part) (ready : RowReady net gate parts given) (last : PartIs (made_at gate given) (64 * (parts - 1)) earlier) where
    held_is : (t : ℕ) → 64 * parts ≤ t → t < 256
        → cond (ltb t (64 * parts + gate.delay)) (set_at earlier (t + 64 - (64 * parts + gate.delay))) (set_at earlier 63) ≡ raw_at gate given t
    held_is t low h =
        let some = ready.some in
        let high = ready.delay_high in
        rw (le-ltb t gate.delay (omega arith))
        (cases (ltb t (64 * parts + gate.delay))
        (λ b. let l = ltb-true t (64 * parts + gate.delay) b in
        let e : 64 * (parts - 1) + (t + 64 - (64 * parts + gate.delay)) ≡ t - gate.delay = omega arith in
        rw b (last.at (t + 64 - (64 * parts + gate.delay)) (omega arith) ∙ ap (made_at gate given) e))
        (λ b. let l = ltb-false t (64 * parts + gate.delay) b in
        rw b (last.at 63 (omega arith) ∙ ready.settled.same (64 * (parts - 1) + 63) (omega arith) (omega arith)
        ∙ sym (ready.settled.same (t - gate.delay) (omega arith) (omega arith)))))

    -- It is what the gate makes of its pins at the last tick.
    pub settles_at : {settled : Part} → ((k : ℕ) → k < 64 → set_at settled k ≡ set_at earlier 63) → PartIs (λ t. made_at gate given 255) 0 settled
    settles_at held =
        let some = ready.some in
        let few = ready.few in
        record { at = λ k h. held k h ∙ last.at 63 (omega arith) ∙ ready.settled.same (64 * (parts - 1) + 63) (omega arith) (omega arith) }

    pub raw_held : {now after : List ℕ} → RowMade (raw_at gate given) net (64 * parts) given now
        → RowMade (held_from earlier gate.delay parts (set_in now net)) net 256 now after → RowMade (raw_at gate given) net 256 given after
    unfolding held_from
    raw_held made held =
        row_then _ net (64 * parts) 256 (omega (arith, ready.few)) made held
        (λ t h. cases (ltb t (64 * parts))
        (λ b. rw b (made.sets t (ltb-true t (64 * parts) b)))
        (λ b. rw b (held_is t (ltb-false t (64 * parts) b) h)))
