-- The bytes of a field, and the classes of bytes (source 000, sections 5.1 to 5.4; document 01, "A lawful record").
-- Assumes nothing.
use Rattle.std.specs.Prelude.{ℕ, Bool, ◌&&◌, ◌||◌, List, leb, eqb, replicate}
use Rattle.laws.specs.Row.{each}
use Rattle.field.specs.declared.class.Class.{Class}
use Rattle.field.specs.declared.class.Class.TheVariants.{Blank, Digit, Zero, Text, Plain}

-- blank is byte 20 alone; the A set is bytes 20 to 7E and A0 to FF; plain bytes are those of the A set but A0, the no-break blank
abbrev pub in_class : Class → ℕ → Bool
in_class Blank b = eqb b 32
in_class Digit b = leb 48 b && leb b 57
in_class Zero b = eqb b 48
in_class Text b = (leb 32 b && leb b 126) || leb 160 b
in_class Plain b = (leb 32 b && leb b 126) || leb 161 b

-- every byte is of the class
unfoldable pub all_of : Class → List ℕ → Bool
all_of c t = each (in_class c) t

abbrev pub blanks : ℕ → List ℕ
blanks n = replicate n 32
