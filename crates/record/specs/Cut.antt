-- Records are cut from a file by length, from its start, and fields from a record by place.
-- Assumes nothing.
use Rattle.std.specs.Prelude.{ℕ, ◌*◌, ◌/◌, List, [], ltb, length, take, drop}
use Rattle.laws.specs.Row.{pick}
use Rattle.record.specs.declared.kind.Kind.{Kind}
use Rattle.record.specs.Table.{length_of, width_at, offset_at}

-- the number of whole records in a file's bytes
unfoldable pub count_of : List ℕ → Kind → ℕ
count_of s k = length s / length_of k

-- the bytes of record i of a file, counted from 0; past the last whole record there are none
unfoldable pub record_of : List ℕ → Kind → ℕ → List ℕ
record_of s k i = pick (ltb i (count_of s k)) (take (length_of k) (drop (i * length_of k) s)) []

-- the bytes of a field of a record
unfoldable pub text_of : List ℕ → Kind → ℕ → List ℕ
text_of s k f = take (width_at k f) (drop (offset_at k f) s)
