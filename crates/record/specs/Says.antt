-- What the records of a file say: for each record and field missing, a number, a text or a coordinate. The rules from 30 on are
-- read of these alone, and never of bytes.
-- Assumes nothing.
use Rattle.std.specs.Prelude.{ℕ, ◌+◌, ◌-◌, min, Bool, true, false, List, ℤ, pos, negsuc, get_or, eqb}
use Rattle.laws.specs.Row.{pick}
use Rattle.field.specs.declared.class.Class.TheVariants.{Blank}
use Rattle.field.specs.Bytes.{all_of}
use Rattle.field.specs.Digits.{number_written}
use Rattle.field.specs.Signs.{signed}
use Rattle.field.specs.Texts.{trimmed, word_of}
use Rattle.record.specs.declared.kind.Kind.{Kind}
use Rattle.record.specs.declared.kind.Form.{Form}
use Rattle.record.specs.declared.kind.Form.TheVariants.{Words, Code, Sign, Number, Size}
use Rattle.record.specs.Table.{form_at, limit}
use Rattle.record.specs.Cut.{count_of, record_of, text_of}

-- a coordinate, one signed whole number, is said at the number's field, and nothing at its sign's
pub data Said : Type 0 where
  missing : Said
  number : ℕ → Said
  text : List ℕ → Said
  coordinate : ℤ → Said

abbrev pub text_said : List ℕ → Said
text_said t = pick (all_of Blank t) missing (text (trimmed t))

-- what a field of the form says by its bytes; b is the field before it
unfoldable pub said_as : Form → List ℕ → List ℕ → Said
said_as Words t b = text_said t
said_as Code t b = text_said t
said_as Sign t b = missing
said_as Number t b = pick (all_of Blank t) missing (number (number_written t))
said_as Size t b = pick (all_of Blank t) missing (coordinate (signed (eqb (get_or b 0 0) 45) (number_written t)))

-- what field f of a record's bytes says
unfoldable pub said_in : List ℕ → Kind → ℕ → Said
said_in s k f = said_as (form_at k f) (text_of s k f) (text_of s k (f - 1))

-- what a file says: how many records, and what field f of record i, counted from 0, says. A file longer than the limit is reason 10,
-- and no rule is read of its table; so the count stops at the limit, and what is said past it is not read
pub record Table : Type 0 where
  pub count : ℕ
  pub says : ℕ → ℕ → Said

abbrev pub table_of : List ℕ → Kind → Table
table_of s k = record { count = min limit (count_of s k); says = λ i f. said_in (record_of s k i) k f }

abbrev pub is_missing : Said → Bool
is_missing missing = true
is_missing (number n) = false
is_missing (text t) = false
is_missing (coordinate z) = false

-- the number said, 0 where none is
abbrev pub number_in : Said → ℕ
number_in missing = 0
number_in (number n) = n
number_in (text t) = 0
number_in (coordinate z) = 0

-- an id or a CODIGO as one number, by which keys and references are compared: 0 is kept for what is missing, and the id 0 has number
-- 1. (A text counts by its first eight bytes, and CODIGO has seven; a coordinate is no key.)
abbrev pub key_in : Said → ℕ
key_in missing = 0
key_in (number n) = n + 1
key_in (text t) = word_of t
key_in (coordinate z) = 0

-- the first byte of the text said
abbrev pub letter_in : Said → ℕ
letter_in missing = 0
letter_in (number n) = 0
letter_in (text t) = get_or t 0 0
letter_in (coordinate z) = 0

-- a coordinate as one number, by which places are compared: 0 where it is missing, so that a missing Z equals only a missing Z
abbrev pub place_of : ℤ → ℕ
place_of (pos n) = n + n + 1
place_of (negsuc n) = n + n + 2

abbrev pub place_in : Said → ℕ
place_in missing = 0
place_in (number n) = 0
place_in (text t) = 0
place_in (coordinate z) = place_of z
