-- `record::files::is_few` meets its contract: a kind gives how many records its file has.
-- Assumes nothing.
use Rattle.record.proofs.FileLaws.{few-file}
use Rattle.record.proofs.files.is_few.Goals as goal

pub returns-in-Some : goal.returns-in-Some
returns-in-Some c = λ e. few-file _ c.in-Some.is c.file_of.ensures c.rows.ensures.value e
