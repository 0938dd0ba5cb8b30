-- Grids in lent memory, and the two calls on them: 48 cells, by file and then group.
-- Assumes nothing.
use Rattle.std.specs.Prelude.{ℕ, ◌+◌, ◌*◌, ◌/◌, ◌%◌, Bool, ◌||◌, List, ◌++◌, ◌≡◌, ltb, length, get_or, drop}
use Rattle.laws.specs.Row.{pick, row}
use Rattle.record.specs.declared.reason.Reason.TheVariants.{ShortRoom61}
use Rattle.record.specs.Table.{file_count}
use Rattle.record.specs.Files.{Files}
use Rattle.judge.specs.Broken.{groups}
use Rattle.grids.specs.Grid.{Grid, grid_of}
use Rattle.grids.specs.Sum.{cell_at, plus, add_finding}
use Rattle.canopyrail.specs.Answers.{refusal_word, finding_word}

abbrev pub cell_count : ℕ
cell_count = file_count * groups

-- a grid's cells, one after another
abbrev pub lent_cells : Grid → List ℕ
lent_cells a = row (λ c. cell_at a (c / groups) (c % groups)) cell_count

-- the grid that lent cells hold
abbrev pub grid_in : List ℕ → Grid
grid_in cells = row (λ i. row (λ g. get_or cells (i * groups + g) 0) groups) file_count

-- they are fewer than a grid has
abbrev pub too_few : List ℕ → Bool
too_few cells = ltb (length cells) cell_count

-- COUNTING: the cells before, the answer, the cells after. Too few are refused with 61, and a refusal leaves them; what lies past a grid's
-- cells is as it was.
pub record Counts (files : Files) (cells : List ℕ) (r : ℕ) (after : List ℕ) : Type 0 where
  pub says : r ≡ pick (too_few cells) (refusal_word ShortRoom61 0) 0
  pub holds : r ≡ 0 → after ≡ lent_cells (grid_of files) ++ drop cell_count cells
  pub stays : (r ≡ 0 → ⊥) → after ≡ cells

-- ADDING the grid of the one to that of the other, of which either may be too short
pub record Adds (into from : List ℕ) (r : ℕ) (after : List ℕ) : Type 0 where
  pub says : r ≡ pick (too_few into || too_few from) (refusal_word ShortRoom61 0) (finding_word (add_finding (grid_in into) (grid_in from)))
  pub holds : r ≡ 0 → after ≡ lent_cells (plus (grid_in into) (grid_in from)) ++ drop cell_count into
  pub stays : (r ≡ 0 → ⊥) → after ≡ into
