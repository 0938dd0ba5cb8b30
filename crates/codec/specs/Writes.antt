-- The bytes of a record that says something (source 000, sections 5.1 to 5.4; document 01, "A lawful record").
-- Assumes nothing.
use Rattle.std.specs.Prelude.{ℕ, ◌+◌, List, [], ◌∷◌, ◌++◌, nat_abs}
use Rattle.laws.specs.Row.{row}
use Rattle.field.specs.Bytes.{blanks}
use Rattle.field.specs.Digits.{digits}
use Rattle.field.specs.Signs.{sign_byte}
use Rattle.field.specs.Texts.{padded}
use Rattle.record.specs.declared.kind.Kind.{Kind}
use Rattle.record.specs.declared.kind.Form.{Form}
use Rattle.record.specs.declared.kind.Form.TheVariants.{Words, Code, Sign, Number, Size}
use Rattle.record.specs.Table.{form_at, width_at, fields_of}
use Rattle.record.specs.Says.{Said, missing, number, text, coordinate}

-- zero-filled on the left; a missing number is all blanks, and its sign too
abbrev pub number_bytes : ℕ → Said → List ℕ
number_bytes w missing = blanks w
number_bytes w (number n) = digits w n
number_bytes w (text t) = blanks w
number_bytes w (coordinate z) = digits w (nat_abs z)

abbrev pub sign_bytes : ℕ → Said → List ℕ
sign_bytes w missing = blanks w
sign_bytes w (number n) = blanks w
sign_bytes w (text t) = blanks w
sign_bytes w (coordinate z) = padded w (sign_byte z ∷ [])

abbrev pub text_bytes : ℕ → Said → List ℕ
text_bytes w missing = blanks w
text_bytes w (number n) = blanks w
text_bytes w (text t) = padded w t
text_bytes w (coordinate z) = blanks w

-- a field of the form and the width, by what it says and what the next field says: a sign is its coordinate's
unfoldable pub bytes_as : Form → ℕ → Said → Said → List ℕ
bytes_as Words w own next = text_bytes w own
bytes_as Code w own next = text_bytes w own
bytes_as Sign w own next = sign_bytes w next
bytes_as Number w own next = number_bytes w own
bytes_as Size w own next = number_bytes w own

-- v tells what each field says
unfoldable pub field_bytes : Kind → (ℕ → Said) → ℕ → List ℕ
field_bytes k v f = bytes_as (form_at k f) (width_at k f) (v f) (v (f + 1))

-- after a field a bar; after the last 0D, and then 0A
abbrev pub ending : List (List ℕ) → ℕ
ending [] = 13
ending (t ∷ ts) = 124

unfoldable pub joined : List (List ℕ) → List ℕ
joined [] = 10 ∷ []
joined (t ∷ ts) = t ++ (ending ts ∷ joined ts)

-- the fields' bytes, in order
abbrev pub fields_bytes : Kind → (ℕ → Said) → List (List ℕ)
fields_bytes k v = row (λ i. field_bytes k v (i + 1)) (fields_of k)

-- the bytes of a record that says v
unfoldable pub encode : Kind → (ℕ → Said) → List ℕ
encode k v = joined (fields_bytes k v)
