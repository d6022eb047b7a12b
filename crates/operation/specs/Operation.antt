-- What an operation answers, and what becomes of its buffers, by the verdict on its checks (document 01, "Refusals in checking order").
use Rattle.std.specs.Prelude.{Result, Ok, Err}
use Rattle.block.specs.Verdict.{Verdict}
use Rattle.block.specs.declared.verdict.Refusal.{Refusal}
use Rattle.std.specs.Prelude.{ℕ, List, ◌≡◌}

-- An accepted call answers what it found, a refused one the refusal.
abbrev pub answer_after : {T : Type 0} → Verdict → T → Result T Refusal
answer_after (Ok _) found = Ok found
answer_after (Err r) found = Err r

-- An accepted call writes a buffer; a refusal leaves every lent buffer untouched.
abbrev pub buffer_after : Verdict → List ℕ → List ℕ → List ℕ
buffer_after (Ok _) written given = written
buffer_after (Err r) written given = given

-- The work buffer's contents after an accepted call are free.
abbrev pub WorkAfter : Verdict → List ℕ → List ℕ → Type 0
WorkAfter (Ok _) given after = Unit
WorkAfter (Err r) given after = after ≡ given
