-- A delivery: its files' bytes, and what they say.
-- Assumes nothing.
use Rattle.std.specs.Prelude.{ℕ, ◌-◌, List, [], get_or}
use Rattle.record.specs.declared.kind.Kind.{Kind}
use Rattle.record.specs.Table.{file_of}
use Rattle.record.specs.Says.{Table, table_of}

-- the bytes of each file
abbrev pub Files : Type 0
Files = Kind → List ℕ

-- the files' bytes, in the order of the files' numbers; those past the list's end are empty
unfoldable pub files_of : List (List ℕ) → Files
files_of files k = get_or files (file_of k - 1) []

-- what each file says
abbrev pub Delivery : Type 0
Delivery = Kind → Table

-- bytes give tables by decoding
abbrev pub delivery_of : Files → Delivery
delivery_of files k = table_of (files k) k
