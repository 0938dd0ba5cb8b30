-- The grid of a delivery (document 02, W-201): how many breaks each file has in each group of reasons. It covers the lowest group that has
-- any break, with zeros for the rest.
-- Assumes nothing.
use Rattle.std.specs.Prelude.{ℕ, ◌+◌, List, map, ltb, eqb, get_or}
use Rattle.laws.specs.Find.{first_index}
use Rattle.laws.specs.Nest.{many}
use Rattle.laws.specs.Row.{pick, row}
use Rattle.record.specs.declared.kind.Kind.{Kind}
use Rattle.record.specs.Table.{kinds}
use Rattle.record.specs.Files.{Files}
use Rattle.keys.specs.Rules.{or_first}
use Rattle.judge.specs.Broken.{group_tens, groups, last_ten, breaks_in, breaks_of}

-- a row a file, in it a cell for each group of reasons
abbrev pub Grid : Type 0
Grid = List (List ℕ)

-- the ten of column g
abbrev pub ten_of : ℕ → ℕ
ten_of g = get_or group_tens g 0

-- THE LOWEST TEN that has a break, and 0 where none has
unfoldable pub lowest : Files → ℕ
lowest files = or_first (first_index (λ t. ltb 0 (many (breaks_of files t))) (last_ten + 1))

-- A CELL: of the lowest ten the number of its breaks in the file, else 0
unfoldable pub cell_of : Files → Kind → ℕ → ℕ
cell_of files k t = pick (eqb t (lowest files)) (many (breaks_in files t k)) 0

-- THE GRID
unfoldable pub grid_of : Files → Grid
grid_of files = map (λ k. row (λ g. cell_of files k (ten_of g)) groups) kinds
