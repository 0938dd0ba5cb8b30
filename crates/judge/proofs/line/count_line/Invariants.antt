-- `judge::line::count_line` meets its contract: the loop's invariant says what is left of the line.
-- Assumes nothing.
use Rattle.judge.proofs.LineLaws.{Counting}
use Rattle.judge.proofs.line.count_line.Given as goal

abbrev pub invariant-loop-count : goal.invariant-loop-count
invariant-loop-count l = Counting l.count-items l.bytes l.at l.count-index
