-- What the program `grid` prints (document 02, W-201): one row a file, six counts of ten digits with single blanks between; or the
-- verdict program's BIG line.
-- Assumes nothing.
use Rattle.std.specs.Prelude.{ℕ, ◌+◌, ◌-◌, ◌*◌, List, [], ◌∷◌, ◌++◌, eqb, length, replicate}
use Rattle.laws.specs.Row.{pick, strung}
use Rattle.field.specs.Digits.{digits}
use Rattle.record.specs.Table.{file_count}
use Rattle.record.specs.Files.{Files}
use Rattle.judge.specs.Broken.{groups}
use Rattle.judge.specs.Line.{or_big}
use Rattle.grids.specs.declared.rows.Rows.{Rows}
use Rattle.grids.specs.Grid.{Grid, grid_of}
use Rattle.grids.specs.Sum.{cell_at}

-- a count in ten digits; after it a blank, after a row's last a line feed
abbrev pub count_text : ℕ → ℕ → List ℕ
count_text g n = digits 10 n ++ (pick (eqb (g + 1) groups) 10 32 ∷ [])

-- row i
abbrev pub row_text : Grid → ℕ → List ℕ
row_text grid i = strung (λ g. count_text g (cell_at grid i g)) groups

-- all rows
unfoldable pub rows_text : Grid → List ℕ
rows_text grid = strung (row_text grid) file_count

-- WHAT THE PROGRAM PRINTS
abbrev pub program_rows : Files → List ℕ
program_rows files = or_big (λ all. rows_text (grid_of all)) files

-- in the hand of the program: their length, and their bytes at the start of an array, in which those past them are 0
abbrev pub rows_room : ℕ
rows_room = file_count * groups * 11

unfoldable pub rows_in : List ℕ → Rows
rows_in s = record { len = length s; bytes = s ++ replicate (rows_room - length s) 0 }
