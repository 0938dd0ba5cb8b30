-- `judge::line::is_big` meets its contract.
-- Assumes nothing.
use Rattle.judge.proofs.line.is_big.Goals as goal

pub returns-in-Some : goal.returns-in-Some
returns-in-Some c = rw (c.in-Some.is, ← c.file_of.ensures)
