-- `topology::used::mark_used` meets its contract. The names are those of the column that was read.
-- Assumes nothing.
use Rattle.record.proofs.ColumnLaws.{read-fills}
use Rattle.topology.proofs.UsedLaws.{used-filled}
use Rattle.topology.proofs.used.mark_used.Goals as goal

pub returns : goal.returns
returns c = used-filled (read-fills c.requires.1 c.fill_names-m.ensures) c.mark_named.ensures
