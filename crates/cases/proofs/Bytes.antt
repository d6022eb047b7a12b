-- Laws of the store's bytes and the pattern's: they are those of the cases that the store has, and of the excitations that the pattern has.
-- Assumes nothing.
use Prim.Native.Nat.{ℕ, zero, suc, ◌+◌, ◌*◌, ◌-◌, ◌/◌, ◌%◌, ◌≤◌, ◌<◌}
use mathlib.Core.List.{List, [], ◌∷◌, ◌++◌, map}
use mathlib.Core.Path.{◌≡◌, refl, ap, sym, ◌∙◌}
use native.Mathlib.Omega.{arith}
use lib.Dec.{ltb}
use lib.ListN.{length, get_or, drop, replicate, length-append, length-drop, length-map, length-replicate, get_or-replicate, get_or-append, get_or-map}
use lib.Seq.{get_or-drop, get_or-append-add, ext_get_or}
use borrow.Author.Tests.{ltb-true, ltb-false}
use borrow.Table.Steps.{cases}
use Rattle.laws.specs.Turn.{list_below}
use Rattle.laws.proofs.Lists.{get_d_any}
use Rattle.laws.proofs.Turn.{list_at, list_long}
use Rattle.excitation.specs.Excitation.{l, excitation_of, byte_of, pattern_of}
use Rattle.excitation.specs.UncertaintySet.{empty, code, sets_in}
use Rattle.excitation.specs.declared.Excitation.{Excitation}
use Rattle.excitation.proofs.Bytes.{byte_forth}
use Rattle.excitation.proofs.Codes.{code_decode, set_at, sets_long}
use Rattle.cases.specs.Case.{Case}
use Rattle.cases.specs.Search.{StoredCase, no_case}
use Rattle.cases.specs.Store.{number_bytes, set_bytes, record_bytes, store_bytes, store_with, pattern_with}
use Rattle.cases.specs.Records.{upper_in, case_in, cases_in, SetCodes, HasCases}
use Rattle.cases.proofs.Numbers.{number_long}
use Rattle.cases.proofs.Records.{cases_long, case_at}

-- What stands past the first of two lists, one after the other, and where the second is the rest of a given list.

after_first : {A : Type 0} (xs ys : List A) (n j : ℕ) (d : A) → length xs ≡ n → n ≤ j → get_or (xs ++ ys) j d ≡ get_or ys (j - n) d
after_first xs ys n j d e h =
    let q : j ≡ length xs + (j - n) = omega arith in
    ap (λ i. get_or (xs ++ ys) i d) q ∙ get_or-append-add xs ys (j - n) d

past : (xs given : List ℕ) (n j : ℕ) → length xs ≡ n → n ≤ j → get_or (xs ++ drop n given) j 0 ≡ get_or given j 0
past xs given n j e h =
    let q : n + (j - n) ≡ j = omega arith in
    after_first xs (drop n given) n j 0 e h ∙ get_or-drop n given (j - n) 0 ∙ ap (λ i. get_or given i 0) q

map_at : {A : Type 0} (f : A → ℕ) (xs : List A) (k : ℕ) (d : A) → k < length xs → get_or (map f xs) k 0 ≡ f (get_or xs k d)
map_at f xs k d h = get_d_any (map f xs) k 0 (f d) (omega (arith, length-map xs f)) ∙ get_or-map f xs k d

-- The bytes of a case's sets: 64, and of sets that were read from bytes, those bytes.

set_bytes_long : (case : Case) → length case ≤ 64 → length (set_bytes case) ≡ 64
unfolding set_bytes
set_bytes_long case h =
    length-append (map code case) (replicate (64 - length case) 0)
    ∙ omega (arith, length-map case code, length-replicate {A = ℕ} (64 - length case) 0)

module _ (inputs : ℕ) (codes : List ℕ) where
  codes_long : length (map code (sets_in inputs codes)) ≡ inputs
  codes_long = length-map (sets_in inputs codes) code ∙ sets_long inputs codes

  set_bytes_at : SetCodes inputs codes → (j : ℕ) → j < 64 → get_or (set_bytes (sets_in inputs codes)) j 0 ≡ get_or codes j 0
  unfolding set_bytes
  set_bytes_at coded j h =
      let sets = sets_in inputs codes in
      let zeros : List ℕ = replicate (64 - length sets) 0 in
      cases (ltb j inputs)
      (λ t. let m = ltb-true j inputs t in
      get_or-append (map code sets) zeros 0 j (omega (arith, codes_long))
      ∙ map_at code sets j empty (omega (arith, sets_long inputs codes))
      ∙ ap code (set_at inputs codes j empty m)
      ∙ code_decode (get_or codes j 0) (omega (arith, coded.high j m)))
      (λ t. let m = ltb-false j inputs t in
      after_first (map code sets) zeros inputs j 0 codes_long m
      ∙ get_or-replicate (64 - length sets) (j - inputs) 0 0 (omega (arith, sets_long inputs codes))
      ∙ sym (coded.none j m h))

-- The bytes of cases: 72 for each, of which none has more than 64 inputs.

record_long : (x : StoredCase) → length x.sets ≤ 64 → length (record_bytes x) ≡ 72
unfolding record_bytes
record_long x h =
    length-append (set_bytes x.sets) (number_bytes 8 x.upper) ∙ omega (arith, set_bytes_long x.sets h, number_long 8 x.upper)

abbrev Narrow : List StoredCase → Type 0
Narrow cases = (k : ℕ) → k < length cases → length (get_or cases k no_case).sets ≤ 64

store_long : (cases : List StoredCase) → Narrow cases → length (store_bytes cases) ≡ 72 * length cases
unfolding store_bytes
store_long [] narrow = refl
store_long (x ∷ rest) narrow =
    length-append (record_bytes x) (store_bytes rest)
    ∙ omega (arith, record_long x (narrow 0 (omega arith)), store_long rest (λ k h. narrow (suc k) (omega arith)))

store_at : (cases : List StoredCase) → Narrow cases → (k j : ℕ) → k < length cases → j < 72
    → get_or (store_bytes cases) (72 * k + j) 0 ≡ get_or (record_bytes (get_or cases k no_case)) j 0
unfolding store_bytes
store_at [] narrow k j h m = absurd (omega arith)
store_at (x ∷ rest) narrow zero j h m =
    let e : 72 * 0 + j ≡ j = omega arith in
    ap (λ i. get_or (record_bytes x ++ store_bytes rest) i 0) e
    ∙ get_or-append (record_bytes x) (store_bytes rest) 0 j (omega (arith, record_long x (narrow 0 (omega arith))))
store_at (x ∷ rest) narrow (suc k) j h m =
    let e : 72 * suc k + j - 72 ≡ 72 * k + j = omega arith in
    after_first (record_bytes x) (store_bytes rest) 72 (72 * suc k + j) 0 (record_long x (narrow 0 (omega arith))) (omega arith)
    ∙ ap (λ i. get_or (store_bytes rest) i 0) e
    ∙ store_at rest (λ k h. narrow (suc k) (omega arith)) k j (omega arith) m

-- A store that has cases is the one that holds them.

module _ (inputs : ℕ) (few : inputs ≤ 64) (store : List ℕ) (n : ℕ) (has : HasCases inputs store n) where
  abbrev held : List StoredCase
  held = cases_in inputs store n

  narrow : Narrow held
  narrow k h =
      let m : k < n = omega (arith, cases_long inputs store n) in
      let e = ap (λ x. length x.sets) (case_at inputs store n k m) in
      omega (arith, sets_long inputs (drop (72 * k) store))

  record_at : (k j : ℕ) → k < n → j < 72 → get_or (record_bytes (case_in inputs store k)) j 0 ≡ get_or store (72 * k + j) 0
  unfolding record_bytes
  record_at k j h m =
      let codes = drop (72 * k) store in
      let bytes = set_bytes (sets_in inputs codes) in
      let number = number_bytes 8 (upper_in store k) in
      let long : length bytes ≡ 64 = set_bytes_long (sets_in inputs codes) (omega (arith, sets_long inputs codes)) in
      cases (ltb j 64)
      (λ t. let q = ltb-true j 64 t in
      get_or-append bytes number 0 j (omega arith) ∙ set_bytes_at inputs codes (has.codes k h) j q ∙ get_or-drop (72 * k) store j 0)
      (λ t. let q = ltb-false j 64 t in
      let e : 72 * k + 64 + (j - 64) ≡ 72 * k + j = omega arith in
      after_first bytes number 64 j 0 long q ∙ sym (has.upper_bytes k h (j - 64) (omega arith)) ∙ ap (λ i. get_or store i 0) e)

  bytes_long : length (store_bytes held) ≡ 72 * n
  bytes_long = store_long held narrow ∙ ap (λ m. 72 * m) (cases_long inputs store n)

  held_at : (i : ℕ) → i < 72 * n → get_or (store_bytes held) i 0 ≡ get_or store i 0
  held_at i h =
      let k = i / 72 in
      let j = i % 72 in
      let inside : k < n = omega arith in
      let e : i ≡ 72 * k + j = omega arith in
      ap (λ p. get_or (store_bytes held) p 0) e
      ∙ store_at held narrow k j (omega (arith, cases_long inputs store n)) (omega arith)
      ∙ ap (λ x. get_or (record_bytes x) j 0) (case_at inputs store n k inside)
      ∙ record_at k j inside (omega arith)
      ∙ ap (λ p. get_or store p 0) (sym e)

  pub store_is : (given : List ℕ) → length store ≡ length given → ((j : ℕ) → 72 * n ≤ j → get_or store j 0 ≡ get_or given j 0)
      → store ≡ store_with (cases_in inputs store n) given
  unfolding store_with
  store_is given same rest =
      let with = store_bytes held ++ drop (72 * n) given in
      let long : length with ≡ length given =
      length-append (store_bytes held) (drop (72 * n) given) ∙ omega (arith, bytes_long, length-drop (72 * n) given, has.whole) in
      ext_get_or 0 store with (same ∙ sym long)
      (λ i h. cases (ltb i (72 * n))
      (λ t. let q = ltb-true i (72 * n) t in
      sym (get_or-append (store_bytes held) (drop (72 * n) given) 0 i (omega (arith, bytes_long)) ∙ held_at i q))
      (λ t. let q = ltb-false i (72 * n) t in
      rest i q ∙ sym (past (store_bytes held) given (72 * n) i bytes_long q)))
      ∙ ap (λ m. store_bytes held ++ drop (72 * m) given) (sym (cases_long inputs store n))

-- A pattern of bytes of 0 to 3 is the one that holds their excitations.
pub pattern_is : (inputs : ℕ) (pattern given : List ℕ) → inputs ≤ length pattern → length pattern ≡ length given
    → ((net : ℕ) → net < inputs → get_or pattern net 0 ≤ 3) → ((j : ℕ) → inputs ≤ j → get_or pattern j 0 ≡ get_or given j 0)
    → pattern ≡ pattern_with (pattern_of inputs pattern) given
unfolding pattern_with pattern_of
pattern_is inputs pattern given room same low rest =
    let rule : ℕ → Excitation = λ net. excitation_of (get_or pattern net 0) in
    let chosen = list_below inputs rule in
    let bytes = map byte_of chosen in
    let long : length bytes ≡ inputs = length-map chosen byte_of ∙ list_long inputs rule in
    ext_get_or 0 pattern (bytes ++ drop inputs given)
    (same ∙ sym (length-append bytes (drop inputs given) ∙ omega (arith, length-drop inputs given)))
    (λ i h. cases (ltb i inputs)
    (λ t. let q = ltb-true i inputs t in
    sym
    (get_or-append bytes (drop inputs given) 0 i (omega arith)
    ∙ map_at byte_of chosen i l (omega (arith, list_long inputs rule))
    ∙ ap byte_of (list_at inputs rule i l q)
    ∙ byte_forth (get_or pattern i 0) (low i q)))
    (λ t. let q = ltb-false i inputs t in rest i q ∙ sym (past bytes given inputs i long q)))
    ∙ ap (λ m. bytes ++ drop m given) (sym (list_long inputs rule))
