-- What a count of bytes read says, and what several reads come to.
-- Assumes nothing.
use Rattle.std.proofs.Common.{ℕ, ◌+◌, ◌≤◌, ◌<◌, ◌≡◌, List, [], ◌++◌, length, take, Option, None, Some, IfSome, Result, Ok, Err, OnOk, MatchResult, IsErrAnd}
use Rattle.std.proofs.Common.{ltb, ltb-true, ltb-false, subst, sym, ap, ◌∙◌, arith}
use Rattle.std.proofs.Math.Seq.{take-append-add, take-append_seam}
use Rattle.std.proofs.lemmas.List.{length-take, take-append-le, take_all, append_assoc, append-nil}
use borrow.Table.Steps.{cases}
use borrow.Rule.Slice.PartMut.{put_mid, post_of}
use Rattle.std.specs.Io.KnownBytes.{Consumes, Appends, IsAtEnd}
use Rattle.program.specs.Program.{most_bytes, program_text}
use Rattle.program.proofs.Searches.{read_enough}
use Rattle.estimate.specs.Reading.{IsAnswered}
use Rattle.estimate.specs.declared.Failure.{Failure}
use Rattle.estimate.specs.declared.Failure.TheVariants.{Unwritten}

-- Two reads are one of the bytes of both.
pub consumes_more : (before between after : Option (List ℕ)) (xs ys : List ℕ) → Consumes before between xs
    → Consumes between after ys → Consumes before after (xs ++ ys)
consumes_more None between after xs ys first second = tt
consumes_more (Some bs) None after xs ys first second = elim first [ ]
consumes_more (Some bs) (Some cs) None xs ys first second = elim second [ ]
consumes_more (Some bs) (Some cs) (Some ds) xs ys first second = first ∙ ap (λ l. xs ++ l) second ∙ sym (append_assoc xs ys ds)

-- A room of which a part was written, up to a place of that part.
pub take_put_more : (from size n : ℕ) (room part : List ℕ) → from ≤ length room → n ≤ length part
    → take (from + n) (put_mid from size room part) ≡ take from room ++ take n part
take_put_more from size n room part p q =
    let whole : length (take from room) ≡ from = simp length-take (omega arith) in
    subst (λ m. take (m + n) (put_mid from size room part) ≡ take from room ++ take n part) whole
    (take-append-add (take from room) (part ++ post_of from size room) n
    ∙ ap (λ l. take from room ++ l) (take-append-le n part (post_of from size room) q))

-- A read into the rest of a room, after reads that filled its beginning.
pub read_on : (before between after : Option (List ℕ)) (from size n : ℕ) (room part : List ℕ) → from ≤ length room → n ≤ length part
    → Consumes before between (take from room) → Consumes between after (take n part) → Consumes before after (take (from + n) (put_mid from size room part))
read_on before between after from size n room part p q first second =
    subst (Consumes before after) (sym (take_put_more from size n room part p q)) (consumes_more before between after (take from room) (take n part) first second)

-- What the room has when reading ends is enough to know what is written for the whole input.
pub answered : (before after held written : Option (List ℕ)) (n : ℕ) (room : List ℕ) → length room ≡ most_bytes + 1 → n ≤ length room
    → Consumes before after (take n room) → (n < length room → IsAtEnd after) → Appends held written (program_text (take n room))
    → IfSome before (λ file. Appends held written (program_text file))
answered None after held written n room long fits read end added = tt
answered (Some file) None held written n room long fits read end added = elim read [ ]
answered (Some file) (Some rest) held written n room long fits read end added =
    subst (Appends held written)
    (cases (ltb n (length room))
    (λ e. (let left : rest ≡ [] = end (ltb-true n (length room) e) in
    let whole : file ≡ take n room = read ∙ ap (λ l. take n room ++ l) left ∙ append-nil (take n room) in
    ap program_text (sym whole)))
    (λ e. (let full : take n room ≡ room = take_all n room (let h = ltb-false n (length room) e in omega arith) in
    let whole : file ≡ room ++ rest = read ∙ ap (λ l. l ++ rest) full in
    let cut : take (most_bytes + 1) file ≡ room =
    ap (take (most_bytes + 1)) whole ∙ subst (λ m. take m (room ++ rest) ≡ room) long (take-append_seam room rest) in
    ap program_text (full ∙ sym cut) ∙ read_enough file)))
    added

-- Where the failure of a read was renamed and none came, there was none.
pub read_done : {E F : Type 0} (why : E → F → Type 0) (read : Result ℕ E) (renamed : Result ℕ F) (n : ℕ) → renamed ≡ Ok n
    → MatchResult read (λ x. renamed ≡ Ok x) (λ e. IsErrAnd renamed (why e)) → read ≡ Ok n
read_done why (Ok x) renamed n told same = grind (arith, told, same)
read_done why (Err e) renamed n told same = elim (subst (λ r. IsErrAnd r (why e)) told same) [ ]

-- What a write comes to, where its failure was renamed.
pub written_or_not : {E added : Type 0} (input before after : Option (List ℕ)) (why : E → Failure → Type 0) (write : Result (Unit {0}) E)
    (result : Result (Unit {0}) Failure) → ((e : E) (f : Failure) → why e f → f ≡ Unwritten) → OnOk write added
    → MatchResult write (λ x. result ≡ Ok x) (λ e. IsErrAnd result (why e))
    → (added → IfSome input (λ file. Appends before after (program_text file))) → IsAnswered input before after result
written_or_not input before after why (Ok done) result renamed added same whole = subst (IsAnswered input before after) (sym same) (whole added)
written_or_not input before after why (Err e) (Ok done) renamed added same whole = elim same [ ]
written_or_not input before after why (Err e) (Err f) renamed added same whole =
    subst (λ f. IsAnswered input before after (Err f)) (sym (renamed e f same)) tt
