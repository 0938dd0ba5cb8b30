-- What a struct of values says, field by field, and the struct that says what a field says (document 01, "As a value a
-- coordinate is one signed whole number or missing"; READINGS R15).
-- Assumes nothing.
use Rattle.std.specs.Prelude.{ℕ, ◌+◌, true, false, not, List, ◌∷◌, eqb, pos, length, get_or}
use Rattle.laws.specs.Row.{pick, row}
use Rattle.field.specs.Bytes.{blanks}
use Rattle.field.specs.Texts.{padded, first_bytes}
use Rattle.record.specs.declared.kind.Kind.{Kind}
use Rattle.record.specs.declared.kind.Form.{Form}
use Rattle.record.specs.declared.kind.Form.TheVariants.{Words, Code, Sign, Number, Size}
use Rattle.record.specs.Table.{form_at, widest, most_fields}
use Rattle.record.specs.Says.{Said, missing, number, text, coordinate, said_in}
use Rattle.codec.specs.declared.values.Value.{Value}
use Rattle.codec.specs.declared.values.Values.{Values}

-- nothing is said
abbrev pub no_value : Value
no_value = record { given = false; number = 0; coordinate = pos 0; len = 0; text = blanks widest }

-- a text: the first len bytes of the struct's sixty; those past the sixtieth count as 0, and no bytes are no text. `given` is read of
-- numbers and coordinates only
abbrev pub text_by : Value → Said
text_by v = pick (eqb v.len 0) missing (text (first_bytes v.len v.text))

-- what a value says in a field of the form
abbrev pub said_by : Form → Value → Said
said_by Words v = text_by v
said_by Code v = text_by v
said_by Sign v = missing
said_by Number v = pick v.given (number v.number) missing
said_by Size v = pick v.given (coordinate v.coordinate) missing

-- the value of field f, counted from 1
unfoldable pub value_at : Values → ℕ → Value
value_at v f = get_or (no_value ∷ v.at) f no_value

-- what the values say of a record of the kind, at its fields; values past its last field are not looked at
unfoldable pub values_say : Kind → Values → ℕ → Said
values_say k v f = said_by (form_at k f) (value_at v f)

-- a text, as a value
unfoldable pub text_value : List ℕ → Value
text_value t = record { given = not (eqb (length t) 0); number = 0; coordinate = pos 0; len = length t; text = padded widest t }

-- what is said, as a value
unfoldable pub value_of : Said → Value
value_of missing = no_value
value_of (number n) = record { given = true; number = n; coordinate = pos 0; len = 0; text = blanks widest }
value_of (text t) = text_value t
value_of (coordinate z) = record { given = true; number = 0; coordinate = z; len = 0; text = blanks widest }

-- the values of a record's bytes
unfoldable pub values_in : List ℕ → Kind → Values
values_in s k = record { at = row (λ i. value_of (said_in s k (i + 1))) most_fields }
