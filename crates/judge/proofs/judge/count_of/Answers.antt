-- `judge::judge::count_of` meets its contract: a kind gives the number of its file's whole records.
-- Assumes nothing.
use Rattle.record.specs.Table.{on_file}
use Rattle.judge.proofs.judge.count_of.Goals as goal

pub returns-in-None : goal.returns-in-None
unfolding on_file
returns-in-None c = rw c.in-None.is

pub returns-in-Some : goal.returns-in-Some
unfolding on_file
returns-in-Some c = rw (c.in-Some.is, ← c.file_of.ensures) c.records.ensures
