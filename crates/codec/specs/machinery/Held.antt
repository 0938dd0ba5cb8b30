-- Machinery: values as four arrays hold them, which the code reads and writes without copying them. No promise cites this file.
-- Assumes nothing.
use Rattle.std.specs.Prelude.{ℕ, ◌-◌, ◌*◌, ◌≤◌, not, List, [], ◌∷◌, ◌≡◌, eqb, ℤ, pos, get_or, take, drop}
use Rattle.laws.specs.Row.{pick}
use Rattle.record.specs.declared.kind.Kind.{Kind}
use Rattle.record.specs.declared.kind.Form.{Form}
use Rattle.record.specs.declared.kind.Form.TheVariants.{Words, Code, Sign, Number, Size}
use Rattle.record.specs.Table.{form_at, fields_of, widest}
use Rattle.record.specs.Says.{Said}
use Rattle.codec.specs.declared.values.Value.{Value}
use Rattle.codec.specs.declared.held.Held.{Held}
use Rattle.codec.specs.Values.{said_by}

-- a value of these: what has a length is given
abbrev pub value_by : ℕ → ℤ → ℕ → List ℕ → Value
value_by number coordinate len text = record { given = not (eqb len 0); number = number; coordinate = coordinate; len = len; text = text }

-- the bytes of field f's text
unfoldable pub text_held : List ℕ → ℕ → List ℕ
text_held texts f = take widest (drop (widest * (f - 1)) texts)

-- what the arrays hold of field f, counted from 1
unfoldable pub held_at : List ℕ → List ℤ → List ℕ → List ℕ → ℕ → Value
held_at numbers coordinates lengths texts f = value_by (get_or (0 ∷ numbers) f 0) (get_or (pos 0 ∷ coordinates) f (pos 0)) (get_or (0 ∷ lengths) f 0) (text_held texts f)

abbrev pub held : Held → ℕ → Value
held h f = held_at h.numbers.now h.coordinates.now h.lengths.now h.texts.now f

-- what the values of a record of the kind say at its fields, where at has them
unfoldable pub say_by : Kind → (ℕ → Value) → ℕ → Said
say_by k at f = said_by (form_at k f) (at f)

-- the same is said at each field
abbrev pub SaySame : Kind → (ℕ → Said) → (ℕ → Said) → Type 0
SaySame k v w = (f : ℕ) → 1 ≤ f → f ≤ fields_of k → v f ≡ w f

-- the length under which a field of the form holds a value
abbrev pub held_length : Form → Value → ℕ
held_length Words v = v.len
held_length Code v = v.len
held_length Sign v = pick v.given 1 0
held_length Number v = pick v.given 1 0
held_length Size v = pick v.given 1 0

-- a text's length, and a text, in a field of the form
abbrev pub words_length : Form → ℕ → ℕ
words_length Words n = n
words_length Code n = n
words_length Sign n = 0
words_length Number n = 0
words_length Size n = 0

abbrev pub words_of : Form → List ℕ → List ℕ
words_of Words t = t
words_of Code t = t
words_of Sign t = []
words_of Number t = []
words_of Size t = []
