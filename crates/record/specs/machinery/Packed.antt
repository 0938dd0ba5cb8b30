-- Machinery: the table as the code has it, one number for a kind and an attribute of its places. No promise cites this file.
-- Assumes nothing.
use Rattle.std.specs.Prelude.{ℕ, zero, suc, ◌+◌, ◌*◌, ◌/◌, ◌%◌, ◌^◌, List, [], ◌∷◌, eqb, ltb, get_or}
use Rattle.laws.specs.Row.{pick}
use Rattle.record.specs.declared.kind.Kind.{Kind}
use Rattle.record.specs.declared.kind.Form.{Form}
use Rattle.record.specs.declared.kind.Form.TheVariants.{Words, Code, Sign, Number, Size}
use Rattle.record.specs.declared.kind.Domain.{Domain}
use Rattle.record.specs.declared.kind.Domain.TheVariants.{Any, ObjectType, PlusMinus, NodeType, Orientation, Justification}
use Rattle.record.specs.declared.kind.Target.{Target}
use Rattle.record.specs.declared.kind.Target.TheVariants.{Free, Nowhere, To}
use Rattle.record.specs.Table.{Which}
use Rattle.std.specs.Prelude.{None, Some}
use Rattle.record.specs.Table.{Col, whole, fields, file_of, which_of}

-- the digits of forms and domains, and back
abbrev pub form_digit : Form → ℕ
form_digit Words = 0
form_digit Code = 1
form_digit Sign = 2
form_digit Number = 3
form_digit Size = 4

unfoldable pub form_of : ℕ → Form
form_of n = get_or (Words ∷ Code ∷ Sign ∷ Number ∷ Size ∷ []) n Words

abbrev pub domain_digit : Domain → ℕ
domain_digit Any = 0
domain_digit ObjectType = 1
domain_digit PlusMinus = 2
domain_digit NodeType = 3
domain_digit Orientation = 4
domain_digit Justification = 5

unfoldable pub domain_of : ℕ → Domain
domain_of n = get_or (Any ∷ ObjectType ∷ PlusMinus ∷ NodeType ∷ Orientation ∷ Justification ∷ []) n Any

-- what a field refers to, by the number of a file and a field: 0 is nothing, 15 a file that is not there
abbrev pub target_file : Target → ℕ
target_file Free = 0
target_file Nowhere = 15
target_file (To k g) = file_of k

abbrev pub target_field : Target → ℕ
target_field Free = 0
target_field Nowhere = 0
target_field (To k g) = g

abbrev pub target_in : Which → ℕ → Target
target_in None g = Free
target_in (Some k) g = To k g

unfoldable pub target_by : ℕ → ℕ → Target
target_by n g = pick (eqb n 15) Nowhere (target_in (which_of n) g)

-- A NUMBER with a digit to the base 16 for each of n places, place 0 the lowest
abbrev pub packed : (ℕ → ℕ) → ℕ → ℕ
packed g zero = 0
packed g (suc n) = g 0 + 16 * packed (λ f. g (suc f)) n

-- an attribute of the places of some fields: by cases, so that it computes where the fields are known and only there
abbrev pub packed_in : (List Col → ℕ → ℕ) → List Col → ℕ
packed_in g [] = 0
packed_in g (c ∷ cs) = packed (g (whole ∷ c ∷ cs)) 16

abbrev pub packed_of : (List Col → ℕ → ℕ) → Kind → ℕ
packed_of g k = packed_in g (fields k)

-- and the digit of a place; 0 past the sixteenth
abbrev pub digit_of : ℕ → ℕ → ℕ
digit_of n f = n / 2 ^ (4 * f) % 16

unfoldable pub digit_at : ℕ → ℕ → ℕ
digit_at n f = pick (ltb f 16) (digit_of n f) 0
