-- The eight files, one row each (document 01, "What the box receives", "A lawful record", "Keys" and "References"; document 02, W-204). Whatever differs from
-- file to file stands here, once; offsets, lengths, numbers of fields and keys are computed.
-- Assumes nothing.
use Rattle.std.specs.Prelude.{ℕ, zero, suc, ◌+◌, Bool, true, false, List, [], ◌∷◌, map, length, get_or}
use Rattle.laws.specs.Row.{pick}
use Rattle.record.specs.declared.kind.Kind.{Kind}
use Rattle.record.specs.declared.kind.Kind.TheVariants.{Catalogo, ObPun, ObTex, ObLin, Tramo, Vertice, Nodo, ObComp}
use Rattle.record.specs.declared.kind.Form.{Form}
use Rattle.record.specs.declared.kind.Form.TheVariants.{Words, Code, Sign, Number, Size}
use Rattle.record.specs.declared.kind.Domain.{Domain}
use Rattle.record.specs.declared.kind.Domain.TheVariants.{Any, ObjectType, PlusMinus, NodeType, Orientation, Justification}
use Rattle.record.specs.declared.kind.Target.{Target}
use Rattle.record.specs.declared.kind.Target.TheVariants.{Free, Nowhere, To}
use Rattle.std.specs.Prelude.{Option, None, Some}

-- when a field may not be missing
pub data Must : Type 0 where
  never : Must
  always : Must

abbrev pub required : Must → Bool
required never = false
required always = true

-- A FIELD: its form (an A field: words, a CODIGO, a coordinate's sign; an N field: a number, the size of a coordinate), its width, when
-- it may not be missing, its partners (from `back` fields before it to `ahead` fields after it, itself among them), its domain, what it
-- refers to, whether the record's own id stands for it where it is blank, and whether it is a free word
pub record Col : Type 0 where
  pub form : Form
  pub width : ℕ
  pub must : Must
  pub back : ℕ
  pub ahead : ℕ
  pub domain : Domain
  pub refers : Target
  pub own : Bool
  pub free : Bool

-- a field without partners,
abbrev pub alone : Form → ℕ → Must → Domain → Target → Bool → Bool → Col
alone form w must domain refers own free =
    record { form = form; width = w; must = must; back = 0; ahead = 0; domain = domain; refers = refers; own = own; free = free }

-- that is no free word, and for which no id stands
abbrev pub single : Form → ℕ → Must → Domain → Target → Col
single form w must domain refers = alone form w must domain refers false false

-- N that may not be missing, N that may be
abbrev pub need : ℕ → Col
need w = single Number w always Any Free

abbrev pub may : ℕ → Col
may w = single Number w never Any Free

-- N with a domain: an orientation, which may be missing, and a justification, which may not
abbrev pub orientation : Col
orientation = single Number 5 never Orientation Free

abbrev pub justification : Col
justification = single Number 1 always Justification Free

-- the id of a record of a kind, which may not be missing, or may be
abbrev pub needs_a : Kind → Col
needs_a k = single Number 10 always Any (To k 1)

abbrev pub may_name_a : Kind → Col
may_name_a k = single Number 10 never Any (To k 1)

-- an id that has no file yet
abbrev pub no_file_yet : Col
no_file_yet = single Number 10 never Any Nowhere

-- CODIGO, of a file whose codes are catalogued
abbrev pub code : Col
code = single Code 7 always Any (To Catalogo 1)

-- A that may be blank, and that is no free word
abbrev pub words : ℕ → Col
words w = single Words w never Any Free

-- a name, LITERAL or DEFINICI
abbrev pub free_word : Col
free_word = alone Words 60 never Any Free false true

-- a tramo's line: a line of at least one vertex; a blank one means the line with the tramo's own id
abbrev pub own_line : Col
own_line = alone Number 10 never Any (To Vertice 1) true false

-- place 0 of a record is the record as a whole, and no field
abbrev pub whole : Col
whole = words 0

-- a coordinate's sign and the number after it. Their partners reach from `back` fields before the sign to `ahead` fields after the number
abbrev pub sign_col : Must → ℕ → ℕ → Col
sign_col must back ahead =
    record { form = Sign; width = 1; must = must; back = back; ahead = suc ahead; domain = PlusMinus; refers = Free; own = false; free = false }

abbrev pub size_col : ℕ → Must → ℕ → ℕ → Col
size_col w must back ahead =
    record { form = Size; width = w; must = must; back = suc back; ahead = ahead; domain = Any; refers = Free; own = false; free = false }

abbrev pub pair : ℕ → Must → ℕ → ℕ → List Col → List Col
pair w must back ahead rest = sign_col must back ahead ∷ size_col w must back ahead ∷ rest

-- Z and its sign are partners of each other
abbrev pub z_pair : List Col
z_pair = pair 8 never 0 0 []

-- X and Y with their signs may not be missing
abbrev pub position : List Col
position = pair 9 always 0 0 (pair 10 always 0 0 z_pair)

-- X and Y with their signs have all six fields for partners
abbrev pub centroid : List Col
centroid = pair 9 never 0 4 (pair 10 never 2 2 z_pair)

-- A FILE: its number; the letter of its objects' catalogue type, 0 where it has none; of how many fields, the first ones, its key is
-- made; its fields in order, numbered from 1
pub record FileRow : Type 0 where
  pub file : ℕ
  pub letter : ℕ
  pub keys : ℕ
  pub fields : List Col

abbrev pub file_row : ℕ → ℕ → ℕ → List Col → FileRow
file_row file letter keys fields = record { file = file; letter = letter; keys = keys; fields = fields }

-- THE ROWS
abbrev pub row_of : Kind → FileRow
-- CODIGO, TIPO, NOMBRE_C, DEFINICI. Its own CODIGO refers to nothing
row_of Catalogo = file_row 1 0 1 (single Code 7 always Any Free ∷ single Words 1 always ObjectType Free ∷ free_word ∷ free_word ∷ [])
-- type P; own id, composite id, node id, CODIGO, name, orientation, M, position
row_of ObPun = file_row 2 80 1 (need 10 ∷ may_name_a ObComp ∷ may_name_a Nodo ∷ code ∷ free_word ∷ orientation ∷ may 3 ∷ position)
-- type X; own id, composite id, CODIGO, LITERAL, height, width, orientation, justification, position
row_of ObTex = file_row 3 88 1 (need 10 ∷ may_name_a ObComp ∷ code ∷ free_word ∷ need 3 ∷ may 3 ∷ orientation ∷ justification ∷ position)
-- type L; own id, composite id, CODIGO, name, centroid
row_of ObLin = file_row 4 76 1 (need 10 ∷ may_name_a ObComp ∷ code ∷ free_word ∷ centroid)
-- type T; own id, linear object id, perimeter id, line id, CODIGO, start node, end node, sense
row_of Tramo = file_row 5 84 1 (need 10 ∷ needs_a ObLin ∷ no_file_yet ∷ own_line ∷ code ∷ needs_a Nodo ∷ needs_a Nodo ∷ single Words 1 never PlusMinus Free ∷ [])
-- line id, which a tramo uses, order, position
row_of Vertice = file_row 6 0 2 (single Number 10 always Any (To Tramo 4) ∷ need 5 ∷ position)
-- own id, TIPO, position
row_of Nodo = file_row 7 0 1 (need 10 ∷ single Words 1 never NodeType Free ∷ position)
-- type C; own id, CODIGO, name, centroid
row_of ObComp = file_row 8 67 1 (need 10 ∷ code ∷ free_word ∷ centroid)

-- the kinds, in the order of their files' numbers
abbrev pub kinds : List Kind
kinds = Catalogo ∷ ObPun ∷ ObTex ∷ ObLin ∷ Tramo ∷ Vertice ∷ Nodo ∷ ObComp ∷ []

-- so many files there are
abbrev pub file_count : ℕ
file_count = length kinds

-- a file has at most so many records
abbrev pub limit : ℕ
limit = 16384

-- of all rows: the fields of the record with most, the bytes of the widest field
abbrev pub most_fields : ℕ
most_fields = 14

abbrev pub widest : ℕ
widest = 60

-- WHAT IS READ OFF THE ROWS
abbrev pub file_of : Kind → ℕ
file_of k = (row_of k).file

abbrev pub letter_of : Kind → ℕ
letter_of k = (row_of k).letter

abbrev pub keys_of : Kind → ℕ
keys_of k = (row_of k).keys

abbrev pub fields : Kind → List Col
fields k = (row_of k).fields

-- the columns by place: the whole record, then the fields from 1
abbrev pub cols : Kind → List Col
cols k = whole ∷ fields k

-- the kind of a file's number, where there is one
abbrev pub Which : Type 0
Which = Option Kind

unfoldable pub which_of : ℕ → Which
which_of n = get_or (None ∷ map Some kinds) n None

-- a number of a file, and 0 where there is none
unfoldable pub on_file : (Kind → ℕ) → Which → ℕ
on_file g None = 0
on_file g (Some k) = g k

-- a field's bytes with the byte after them; place 0 takes none
abbrev pub room_in : ℕ → ℕ
room_in zero = 0
room_in (suc w) = suc (suc w)

abbrev pub room_of : Col → ℕ
room_of c = room_in c.width

-- where the f-th begins
abbrev pub offset_in : List Col → ℕ → ℕ
offset_in [] f = 0
offset_in (c ∷ cs) zero = 0
offset_in (c ∷ cs) (suc f) = room_of c + offset_in cs f

-- the bytes of all, with one more, since the last field has two bytes after it
abbrev pub length_in : List Col → ℕ
length_in [] = 1
length_in (c ∷ cs) = room_of c + length_in cs

-- the column of a place
unfoldable pub col_at : Kind → ℕ → Col
col_at k f = get_or (cols k) f whole

unfoldable pub form_at : Kind → ℕ → Form
form_at k f = (col_at k f).form

unfoldable pub width_at : Kind → ℕ → ℕ
width_at k f = (col_at k f).width

unfoldable pub must_at : Kind → ℕ → Must
must_at k f = (col_at k f).must

unfoldable pub back_at : Kind → ℕ → ℕ
back_at k f = (col_at k f).back

unfoldable pub ahead_at : Kind → ℕ → ℕ
ahead_at k f = (col_at k f).ahead

unfoldable pub domain_at : Kind → ℕ → Domain
domain_at k f = (col_at k f).domain

-- what field f of the kind refers to: Free to nothing, Nowhere to a file that is not there, To k g to the records of k by what their
-- field g names
unfoldable pub target_of : Kind → ℕ → Target
target_of k f = (col_at k f).refers

unfoldable pub own_at : Kind → ℕ → Bool
own_at k f = (col_at k f).own

-- free words (document 01), which no rule from 30 on reads
unfoldable pub is_free_word : Kind → ℕ → Bool
is_free_word k f = (col_at k f).free

-- where a field begins in its record
unfoldable pub offset_at : Kind → ℕ → ℕ
offset_at k f = offset_in (cols k) f

-- the number of fields
abbrev pub fields_of : Kind → ℕ
fields_of k = length (fields k)

-- the bytes of a record
abbrev pub length_of : Kind → ℕ
length_of k = length_in (fields k)

-- an N field
abbrev pub is_n : Form → Bool
is_n Words = false
is_n Code = false
is_n Sign = false
is_n Number = true
is_n Size = true

abbrev pub is_code : Form → Bool
is_code Words = false
is_code Code = true
is_code Sign = false
is_code Number = false
is_code Size = false

abbrev pub is_sign : Form → Bool
is_sign Words = false
is_sign Code = false
is_sign Sign = true
is_sign Number = false
is_sign Size = false

-- the field of X, which is after the first sign; Y is two fields after it, Z four. 0 where the file has none
abbrev pub after_sign : List Col → ℕ → ℕ
after_sign [] f = 0
after_sign (c ∷ cs) f = pick (is_sign c.form) (suc f) (after_sign cs (suc f))

abbrev pub x_field : Kind → ℕ
x_field k = after_sign (fields k) 1
