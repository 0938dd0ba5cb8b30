-- Machinery: how many breaks a file's shape and its fields have, as the code counts them. No promise cites this file.
-- Assumes nothing.
use Rattle.std.specs.Prelude.{ℕ, ◌+◌, false, List, get_or}
use Rattle.laws.specs.Count.{bit, how_many, sum_of}
use Rattle.record.specs.declared.kind.Kind.{Kind}
use Rattle.record.specs.Table.{fields_of}
use Rattle.record.specs.Cut.{record_of}
use Rattle.record.specs.Rules.{breaks10, breaks11, twenties}
use Rattle.record.specs.Says.{table_of}

-- 10 and 11 of a file
unfoldable pub shape_many : List ℕ → Kind → ℕ
shape_many s k = bit (breaks10 s k) + bit (breaks11 s k)

-- 20 to 25 at a place of a record, in a record, and in the records of a file, of which no more than the limit are looked at
unfoldable pub place_many : List ℕ → Kind → ℕ → ℕ
place_many s k f = how_many (λ u. get_or (twenties s k f) u false) 6

unfoldable pub record_many : List ℕ → Kind → ℕ
record_many s k = sum_of (place_many s k) (fields_of k + 1)

unfoldable pub fields_many : List ℕ → Kind → ℕ
fields_many s k = sum_of (λ i. record_many (record_of s k i) k) (table_of s k).count
