-- What the kind of a gate decides (document 01, "The block file" and "Excitations and sets").
use Rattle.std.specs.Prelude.{ℕ, Bool, true, false, List, [], ◌∷◌, get_or}
use Rattle.excitation.specs.declared.Join.TheVariants as by
use Rattle.excitation.specs.declared.Join.{Join}
use Rattle.block.specs.declared.kind.Rule.{Rule}

-- Document 01's kinds. NONE is a byte that is no kind.
pub data Kind : Type 0 where
  NONE INPUT AND NAND OR NOR XOR XNOR NOT BUF : Kind

-- Byte 0: 1 input, 2 AND, 3 NAND, 4 OR, 5 NOR, 6 XOR, 7 XNOR, 8 NOT, 9 BUF.
abbrev pub kinds : List Kind
kinds = NONE ∷ INPUT ∷ AND ∷ NAND ∷ OR ∷ NOR ∷ XOR ∷ XNOR ∷ NOT ∷ BUF ∷ []

-- The kind that byte 0 names.
unfoldable pub kind_of : ℕ → Kind
kind_of byte = get_or kinds byte NONE

-- The least and the greatest pin count, how the pins are joined, and whether the final result is turned over.
abbrev pub rule : ℕ → ℕ → Join → Bool → Rule
rule least most join inverts = record { least = least; most = most; join = join; inverts = inverts }

-- Kinds 2 to 5 take 2 to 4 pins, as do 6 and 7; 8 and 9 take 1, which nothing is joined to. A multi-pin gate joins its pins by AND,
-- OR or XOR; NAND, NOR and XNOR, and NOT, turn the final result over. What is no gate takes no pin count.
abbrev pub rule_of : Kind → Rule
rule_of NONE = rule 1 0 by.And false
rule_of INPUT = rule 1 0 by.And false
rule_of AND = rule 2 4 by.And false
rule_of NAND = rule 2 4 by.And true
rule_of OR = rule 2 4 by.Or false
rule_of NOR = rule 2 4 by.Or true
rule_of XOR = rule 2 4 by.Xor false
rule_of XNOR = rule 2 4 by.Xor true
rule_of NOT = rule 1 1 by.And true
rule_of BUF = rule 1 1 by.And false
