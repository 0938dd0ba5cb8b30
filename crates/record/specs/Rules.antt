-- The rules of a file's shape and of its fields: one test for each of the reasons 10 and 11, 20 to 25 (document 01, "What the
-- reasons are"). A test is true where the rule is broken.
-- Assumes nothing.
use Rattle.std.specs.Prelude.{ℕ, ◌+◌, ◌-◌, ◌*◌, ◌%◌, Bool, true, not, ◌&&◌, ◌||◌, List, [], ◌∷◌, length, get_or, ltb, eqb}
use Rattle.laws.specs.Row.{pick, row, each}
use Rattle.field.specs.declared.class.Class.TheVariants.{Blank, Digit, Zero}
use Rattle.field.specs.Bytes.{all_of}
use Rattle.field.specs.Digits.{number_written}
use Rattle.field.specs.Texts.{trimmed, lawful_text, not_given}
use Rattle.record.specs.declared.kind.Kind.{Kind}
use Rattle.record.specs.declared.kind.Form.{Form}
use Rattle.record.specs.declared.kind.Domain.{Domain}
use Rattle.record.specs.declared.kind.Domain.TheVariants.{Any, ObjectType, PlusMinus, NodeType, Orientation, Justification}
use Rattle.record.specs.Table.{form_at, width_at, must_at, back_at, ahead_at, domain_at, offset_at, fields_of, length_of, limit, required, is_n, is_code, is_sign}
use Rattle.record.specs.Cut.{text_of}

-- of a file's bytes s

-- 10: longer than 16,384 records' bytes
unfoldable pub breaks10 : List ℕ → Kind → Bool
breaks10 s k = ltb (limit * length_of k) (length s)

-- 11: its length is no multiple of the record length
unfoldable pub breaks11 : List ℕ → Kind → Bool
breaks11 s k = ltb 0 (length s % length_of k)

-- of a record's bytes s, at place f; place 0 is the whole record

-- 20: the record doesn't end in 0D 0A
unfoldable pub breaks20 : List ℕ → Kind → ℕ → Bool
breaks20 s k f = eqb f 0 && not (eqb (get_or s (length_of k - 2) 0) 13 && eqb (get_or s (length_of k - 1) 0) 10)

-- 21: no bar after a field; what stands after the last is 20's alone
unfoldable pub breaks21 : List ℕ → Kind → ℕ → Bool
breaks21 s k f = ltb 0 f && ltb f (fields_of k) && not (eqb (get_or s (offset_at k f + width_at k f) 0) 124)

-- an N field that is neither all digits nor all blanks
unfoldable pub not_number : Form → List ℕ → Bool
not_number form t = is_n form && not (all_of Blank t) && not (all_of Digit t)

-- an A field that breaks the A rule
unfoldable pub not_text : Form → List ℕ → Bool
not_text form t = not (is_n form) && not (lawful_text t)

-- 22: N field neither all digits nor all blanks
unfoldable pub breaks22 : List ℕ → Kind → ℕ → Bool
breaks22 s k f = not_number (form_at k f) (text_of s k f)

-- 23: A field breaks the A rule
unfoldable pub breaks23 : List ℕ → Kind → ℕ → Bool
breaks23 s k f = not_text (form_at k f) (text_of s k f)

-- missing: every byte is blank; for CODIGO also NA and ND
unfoldable pub missing_in : Form → List ℕ → Bool
missing_in form t = all_of Blank t || is_code form && not_given (trimmed t)

-- the field and its partners are all blank
unfoldable pub partners_blank : List ℕ → Kind → ℕ → Bool
partners_blank s k f = each (all_of Blank) (row (λ j. text_of s k (f - back_at k f + j)) (back_at k f + ahead_at k f + 1))

-- 24: missing where it may not be, or blank while a partner isn't
unfoldable pub breaks24 : List ℕ → Kind → ℕ → Bool
breaks24 s k f = missing_in (form_at k f) (text_of s k f) && (required (must_at k f) || not (partners_blank s k f))

abbrev pub is_sign_byte : ℕ → Bool
is_sign_byte b = eqb b 43 || eqb b 45

-- a word is within a domain, by its one byte
unfoldable pub word_within : Domain → List ℕ → Bool
word_within Any t = true
-- P, X, L, T or C
word_within ObjectType t =
    eqb (get_or t 0 0) 80 || eqb (get_or t 0 0) 88 || eqb (get_or t 0 0) 76 || eqb (get_or t 0 0) 84 || eqb (get_or t 0 0) 67
word_within PlusMinus t = is_sign_byte (get_or t 0 0)
-- A isolated, C connected, E end, I intermediate, H both
word_within NodeType t =
    eqb (get_or t 0 0) 65 || eqb (get_or t 0 0) 67 || eqb (get_or t 0 0) 69 || eqb (get_or t 0 0) 73 || eqb (get_or t 0 0) 72
word_within Orientation t = true
word_within Justification t = true

-- a number is within a domain
unfoldable pub number_within : Domain → ℕ → Bool
number_within Any n = true
number_within ObjectType n = true
number_within PlusMinus n = true
number_within NodeType n = true
-- degrees 000 to 359 and minutes 00 to 59, in five digits
number_within Orientation n = ltb n 36000 && ltb (n % 100) 60
-- 1 to 9
number_within Justification n = ltb 0 n && ltb n 10

-- a field's bytes are within a domain
unfoldable pub in_domain : Form → Domain → List ℕ → Bool
in_domain form domain t = pick (is_n form) (number_within domain (number_written t)) (word_within domain t)

-- outside the domain; next is the next field's bytes: - never stands before zero, which is told at the sign
unfoldable pub outside : Form → Domain → List ℕ → List ℕ → Bool
outside form domain t next = not (in_domain form domain t) || is_sign form && (eqb (get_or t 0 0) 45 && all_of Zero next)

-- 25: not missing and outside its domain; read only of a field that breaks neither 22 nor 23
unfoldable pub breaks25 : List ℕ → Kind → ℕ → Bool
breaks25 s k f =
    not (breaks22 s k f) && not (breaks23 s k f) && not (missing_in (form_at k f) (text_of s k f))
    && outside (form_at k f) (domain_at k f) (text_of s k f) (text_of s k (f + 1))

-- the twenties at a place, in their order
abbrev pub twenties : List ℕ → Kind → ℕ → List Bool
twenties s k f = breaks20 s k f ∷ breaks21 s k f ∷ breaks22 s k f ∷ breaks23 s k f ∷ breaks24 s k f ∷ breaks25 s k f ∷ []
