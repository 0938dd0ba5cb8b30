-- The values of one record in lent memory, and the two calls on them: of each field, up to the most that a record has, a number, a
-- coordinate, a length and a text of the widest field's bytes. A field whose length is 0 is missing; of a number or a coordinate any
-- other length says that it is given.
-- Assumes nothing.
use Rattle.std.specs.Prelude.{ℕ, ◌+◌, ◌*◌, Bool, true, false, not, ◌&&◌, List, ◌++◌, ◌≡◌, eqb, ltb, leb, ℤ, pos, length, get_or, take, drop}
use Rattle.laws.specs.Row.{pick, row, strung}
use Rattle.field.specs.Texts.{padded, first_bytes}
use Rattle.record.specs.declared.kind.Kind.{Kind}
use Rattle.record.specs.declared.kind.Form.{Form}
use Rattle.record.specs.declared.kind.Form.TheVariants.{Words, Code, Sign, Number, Size}
use Rattle.record.specs.Table.{form_at, width_at, offset_at, most_fields, widest}
use Rattle.record.specs.declared.reason.Reason.TheVariants.{ShortRoom61}
use Rattle.codec.specs.declared.values.Value.{Value}
use Rattle.codec.specs.declared.values.Values.{Values}
use Rattle.codec.specs.Calls.{Answer}
use Rattle.std.specs.Prelude.{Ok, Err}
use Rattle.codec.specs.Values.{no_value, value_at}
use Rattle.codec.specs.Calls.{answer_read, values_read, read_of, Writes}
use Rattle.canopyrail.specs.Answers.{answer_word, refusal_word}

-- THE FIELDS, as a host is told of them: 0 where there is no field
unfoldable pub lent_offset : Kind → ℕ → ℕ
lent_offset k f = pick (eqb (width_at k f) 0) 0 (offset_at k f)

-- 1 a text, 2 a coordinate's sign, 3 a number, 4 a coordinate's digits
abbrev pub form_number : Form → ℕ
form_number Words = 1
form_number Code = 1
form_number Sign = 2
form_number Number = 3
form_number Size = 4

unfoldable pub lent_form : Kind → ℕ → ℕ
lent_form k f = pick (eqb (width_at k f) 0) 0 (form_number (form_at k f))

-- VALUES PUT INTO LENT MEMORY
-- the texts of all fields
abbrev pub text_room : ℕ
text_room = most_fields * widest

-- a text's bytes; 1 of a number or a coordinate that is given
unfoldable pub lent_length : Value → ℕ
lent_length v = pick (v.given && eqb v.len 0) 1 v.len

abbrev pub lent_numbers : Values → List ℕ
lent_numbers v = row (λ i. (value_at v (i + 1)).number) most_fields

abbrev pub lent_coordinates : Values → List ℤ
lent_coordinates v = row (λ i. (value_at v (i + 1)).coordinate) most_fields

abbrev pub lent_lengths : Values → List ℕ
lent_lengths v = row (λ i. lent_length (value_at v (i + 1))) most_fields

abbrev pub lent_texts : Values → List ℕ
lent_texts v = strung (λ i. padded widest (first_bytes widest (value_at v (i + 1)).text)) most_fields

-- lent memory after the values were put at its start; what lies past them is as it was
pub record Holds (v : Values) (numbers : List ℕ) (coordinates : List ℤ) (lengths texts : List ℕ) (numbers' : List ℕ) (coordinates' : List ℤ) (lengths' texts' : List ℕ) : Type 0 where
  pub the_numbers : numbers' ≡ lent_numbers v ++ drop most_fields numbers
  pub the_coordinates : coordinates' ≡ lent_coordinates v ++ drop most_fields coordinates
  pub the_lengths : lengths' ≡ lent_lengths v ++ drop most_fields lengths
  pub the_texts : texts' ≡ lent_texts v ++ drop text_room texts

-- READING
-- room for as many of each, and for their texts
unfoldable pub roomy : ℕ → ℕ → ℕ → ℕ → Bool
roomy numbers coordinates lengths texts =
    not (ltb numbers most_fields) && not (ltb coordinates most_fields) && not (ltb lengths most_fields) && not (ltb texts text_room)

-- a lawful record for whose values there is no room is refused with 61
abbrev pub read_answer : Answer → Bool → ℕ
read_answer (Ok u) true = 0
read_answer (Ok u) false = refusal_word ShortRoom61 0
read_answer (Err r) room = refusal_word r.reason r.field

-- file number, the file's bytes, record number; the lent memory before and after
pub record Reads (file : ℕ) (bytes : List ℕ) (n : ℕ) (numbers : List ℕ) (coordinates : List ℤ) (lengths texts : List ℕ) (r : ℕ) (numbers' : List ℕ) (coordinates' : List ℤ) (lengths' texts' : List ℕ) : Type 0 where
  pub says : r ≡ read_answer (answer_read (read_of file bytes n)) (roomy (length numbers) (length coordinates) (length lengths) (length texts))
  pub holds : r ≡ 0 → Holds (values_read (read_of file bytes n)) numbers coordinates lengths texts numbers' coordinates' lengths' texts'
  pub numbers_stay : (r ≡ 0 → ⊥) → numbers' ≡ numbers
  pub coordinates_stay : (r ≡ 0 → ⊥) → coordinates' ≡ coordinates
  pub lengths_stay : (r ≡ 0 → ⊥) → lengths' ≡ lengths
  pub texts_stay : (r ≡ 0 → ⊥) → texts' ≡ texts

-- WRITING
-- what the four arrays hold of field i + 1
unfoldable pub held_value : List ℕ → List ℤ → List ℕ → List ℕ → ℕ → Value
held_value numbers coordinates lengths texts i =
    record {
      given = not (eqb (get_or lengths i 0) 0);
      number = get_or numbers i 0;
      coordinate = get_or coordinates i (pos 0);
      len = get_or lengths i 0;
      text = padded widest (take widest (drop (widest * i) texts));
    }

-- all four arrays, of these lengths, reach field i + 1
unfoldable pub is_lent : ℕ → ℕ → ℕ → ℕ → ℕ → Bool
is_lent numbers coordinates lengths texts i = ltb i numbers && ltb i coordinates && ltb i lengths && leb (widest * i + widest) texts

-- the value of field i + 1; past the end of a shorter array every value is missing
unfoldable pub lent_value : List ℕ → List ℤ → List ℕ → List ℕ → ℕ → Value
lent_value numbers coordinates lengths texts i =
    pick (is_lent (length numbers) (length coordinates) (length lengths) (length texts) i) (held_value numbers coordinates lengths texts i) no_value

unfoldable pub lent_values : List ℕ → List ℤ → List ℕ → List ℕ → Values
lent_values numbers coordinates lengths texts = record { at = row (lent_value numbers coordinates lengths texts) most_fields }

-- file number, the lent values, the room before and after
pub record WritesLent (file : ℕ) (v : Values) (room : List ℕ) (r : ℕ) (after : List ℕ) : Type 0 where
  pub answer : Answer
  pub says : r ≡ answer_word answer
  pub writes : Writes file v room answer after
