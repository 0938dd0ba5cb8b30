-- `judge::line::line_of` meets its contract.
-- Assumes nothing.
use mathlib.Core.Path.{refl, ap, ◌∙◌}
use Rattle.judge.specs.Line.{line_in}
use Rattle.judge.proofs.LineLaws.{fine-line, broken-line}
use Rattle.judge.proofs.line.line_of.Goals as goal

pub returns-in-Ok : goal.returns-in-Ok
returns-in-Ok c = c.count_line.ensures ∙ ap line_in (fine-line c.args.v _ c.in-Ok.is refl)

pub returns-in-Err : goal.returns-in-Err
returns-in-Err c = c.break_line.ensures ∙ ap line_in (broken-line c.args.v _ _ c.in-Err.is refl)
