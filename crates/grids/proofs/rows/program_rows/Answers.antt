-- `grids::rows::program_rows` meets its contract.
-- Assumes nothing.
use mathlib.Core.Path.{refl, ap, ◌∙◌}
use Rattle.judge.proofs.LineLaws.{none-big, some-big}
use Rattle.grids.specs.Grid.{grid_of}
use Rattle.grids.specs.Rows.{rows_text, rows_in}
use Rattle.grids.proofs.rows.program_rows.Goals as goal

pub returns-then-big-eq0 : goal.returns-then-big-eq0
returns-then-big-eq0 c = let e = c.first_big-big.ensures in
    c.rows_of.ensures ∙ ap rows_in (none-big (λ all. rows_text (grid_of all)) _ e c.if-big-eq0.true (ap rows_text c.grid_of.ensures))

pub returns-else-big-eq0 : goal.returns-else-big-eq0
returns-else-big-eq0 c = c.rows_with.ensures
    ∙ ap rows_in (some-big (λ all. rows_text (grid_of all)) _ c.first_big-big.ensures c.if-big-eq0.false refl)
