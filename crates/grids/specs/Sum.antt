-- Grids that are added (document 02, W-201): cell by cell, or refused with 67 where a cell's sum is over 9,999,999,999.
-- Assumes nothing.
use Rattle.std.specs.Prelude.{ℕ, ◌+◌, Bool, [], ltb, get_or}
use Rattle.laws.specs.Find.{any}
use Rattle.laws.specs.Row.{pick, row}
use Rattle.record.specs.declared.reason.Reason.TheVariants.{TooMany67}
use Rattle.record.specs.Breaks.{Finding}
use Rattle.std.specs.Prelude.{Ok, Err}
use Rattle.record.specs.Table.{file_count}
use Rattle.judge.specs.Broken.{groups}
use Rattle.grids.specs.Grid.{Grid}

-- the most that a cell may have
abbrev pub most_in_cell : ℕ
most_in_cell = 9999999999

-- the cell of row i and column g
unfoldable pub cell_at : Grid → ℕ → ℕ → ℕ
cell_at a i g = get_or (get_or a i []) g 0

-- a cell's sum is over it
unfoldable pub too_many : Grid → Grid → Bool
too_many a b = any (λ i. any (λ g. ltb most_in_cell (cell_at a i g + cell_at b i g)) groups) file_count

-- the sum, cell by cell
unfoldable pub plus : Grid → Grid → Grid
plus a b = row (λ i. row (λ g. cell_at a i g + cell_at b i g) groups) file_count

-- 67, whose place is all zeros
abbrev pub refused67 : Finding
refused67 = Err (record { reason = TooMany67; file = 0; «record» = 0; field = 0 })

-- THE ANSWER of adding b to a,
unfoldable pub add_finding : Grid → Grid → Finding
add_finding a b = pick (too_many a b) refused67 (Ok tt)

-- and what a is then: the sum, or what it was
unfoldable pub add_of : Grid → Grid → Grid
add_of a b = pick (too_many a b) a (plus a b)
