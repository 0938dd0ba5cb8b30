-- What writing refuses: one test for each of the reasons 62 to 65 (document 01, "Single-record calls add"), true where the value
-- is refused, and the first by field and reason.
-- Assumes nothing.
use Rattle.std.specs.Prelude.{ℕ, ◌+◌, ◌-◌, ◌^◌, Bool, false, not, ◌&&◌, ◌||◌, List, [], ◌∷◌, ltb, nat_abs, length}
use Rattle.laws.specs.Row.{row, each}
use Rattle.laws.specs.Nest.{Nest, node, run}
use Rattle.field.specs.declared.class.Class.TheVariants.{Text}
use Rattle.field.specs.Bytes.{all_of}
use Rattle.field.specs.Texts.{edged_by, not_given}
use Rattle.record.specs.declared.kind.Kind.{Kind}
use Rattle.record.specs.declared.kind.Form.{Form}
use Rattle.record.specs.declared.kind.Form.TheVariants.{Words, Code, Sign, Number, Size}
use Rattle.record.specs.declared.kind.Domain.{Domain}
use Rattle.record.specs.declared.reason.Reason.{Reason}
use Rattle.record.specs.declared.reason.Reason.TheVariants.{TooLarge62, BadText63, Missing64, Outside65}
use Rattle.record.specs.declared.reason.Break.{Break}
use Rattle.record.specs.Breaks.{Finding}
use Rattle.record.specs.Table.{form_at, width_at, must_at, back_at, ahead_at, domain_at, fields_of, required}
use Rattle.record.specs.Rules.{word_within, number_within}
use Rattle.record.specs.Breaks.{at_place, finding_of}
use Rattle.record.specs.Says.{Said, missing, number, text, coordinate, is_missing}

-- v tells what each field says; a test is of the field f

-- too large for w digits
abbrev pub too_large : ℕ → Said → Bool
too_large w missing = false
too_large w (number n) = not (ltb n (10 ^ w))
too_large w (text t) = false
too_large w (coordinate z) = not (ltb (nat_abs z) (10 ^ w))

-- 62: value too large for its digits; of a coordinate told at the number
unfoldable pub refuses62 : Kind → (ℕ → Said) → ℕ → Bool
refuses62 k v f = too_large (width_at k f) (v f)

-- too long for w, with a byte outside the A set, or beginning or ending in a blank or in A0
unfoldable pub bad_text : ℕ → List ℕ → Bool
bad_text w t = ltb w (length t) || not (all_of Text t) || edged_by 32 t || edged_by 160 t

abbrev pub bad_said : ℕ → Said → Bool
bad_said w missing = false
bad_said w (number n) = false
bad_said w (text t) = bad_text w t
bad_said w (coordinate z) = false

-- 63: a bad text
unfoldable pub refuses63 : Kind → (ℕ → Said) → ℕ → Bool
refuses63 k v f = bad_said (width_at k f) (v f)

-- NA and ND
abbrev pub says_not_given : Said → Bool
says_not_given missing = false
says_not_given (number n) = false
says_not_given (text t) = not_given t
says_not_given (coordinate z) = false

-- the field is written blank: a sign with its coordinate
abbrev pub blank_as : Form → Said → Said → Bool
blank_as Words own next = is_missing own
blank_as Code own next = is_missing own
blank_as Sign own next = is_missing next
blank_as Number own next = is_missing own
blank_as Size own next = is_missing own

unfoldable pub blank_at : Kind → (ℕ → Said) → ℕ → Bool
blank_at k v f = blank_as (form_at k f) (v f) (v (f + 1))

-- missing: for CODIGO also NA and ND; of a coordinate told at the sign
abbrev pub missing_as : Form → Said → Said → Bool
missing_as Words own next = is_missing own
missing_as Code own next = is_missing own || says_not_given own
missing_as Sign own next = is_missing next
missing_as Number own next = is_missing own
missing_as Size own next = false

-- the field and its partners are all written blank
unfoldable pub partners_missing : Kind → (ℕ → Said) → ℕ → Bool
partners_missing k v f = each (λ b. b) (row (λ j. blank_at k v (f - back_at k f + j)) (back_at k f + ahead_at k f + 1))

-- 64: missing where it may not be, by the partner rule too
unfoldable pub refuses64 : Kind → (ℕ → Said) → ℕ → Bool
refuses64 k v f = missing_as (form_at k f) (v f) (v (f + 1)) && (required (must_at k f) || not (partners_missing k v f))

abbrev pub outside_said : Domain → Said → Bool
outside_said domain missing = false
outside_said domain (number n) = not (number_within domain n)
outside_said domain (text t) = not (word_within domain t)
outside_said domain (coordinate z) = false

-- 65: outside its domain
unfoldable pub refuses65 : Kind → (ℕ → Said) → ℕ → Bool
refuses65 k v f = outside_said (domain_at k f) (v f)

-- the tests of a field, in their order
abbrev pub sixties : Kind → (ℕ → Said) → ℕ → List Bool
sixties k v f = refuses62 k v f ∷ refuses63 k v f ∷ refuses64 k v f ∷ refuses65 k v f ∷ []

abbrev pub sixty_reasons : List Reason
sixty_reasons = TooLarge62 ∷ BadText63 ∷ Missing64 ∷ Outside65 ∷ []

-- by field and reason; place 0 says nothing
unfoldable pub value_breaks : Kind → (ℕ → Said) → Nest Break
value_breaks k v = node (fields_of k + 1) (λ f. at_place (sixties k v f) sixty_reasons k 0 f)

-- the first refusal
unfoldable pub values_finding : Kind → (ℕ → Said) → Finding
values_finding k v = finding_of (run (value_breaks k v))
