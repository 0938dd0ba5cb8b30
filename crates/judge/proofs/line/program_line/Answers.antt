-- `judge::line::program_line` meets its contract.
-- Assumes nothing.
use mathlib.Core.Path.{refl, ap, ◌∙◌}
use Rattle.judge.specs.Line.{line_of, line_in}
use Rattle.judge.proofs.LineLaws.{none-big, some-big}
use Rattle.judge.proofs.line.program_line.Goals as goal

pub returns-then-big-eq0 : goal.returns-then-big-eq0
returns-then-big-eq0 c = let e = c.first_big-big.ensures in
    c.line_of.ensures ∙ ap line_in (none-big _ _ e c.if-big-eq0.true (ap line_of c.judge.ensures))

pub returns-else-big-eq0 : goal.returns-else-big-eq0
returns-else-big-eq0 c = c.big_line.ensures ∙ ap line_in (some-big _ _ c.first_big-big.ensures c.if-big-eq0.false refl)
