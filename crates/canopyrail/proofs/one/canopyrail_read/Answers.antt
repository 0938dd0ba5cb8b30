-- `canopyrail::one::canopyrail_read` meets its contract.
-- Assumes nothing.
use Rattle.canopyrail.proofs.LentLaws.{read_none, reads-refused}
use Rattle.canopyrail.proofs.one.canopyrail_read.Goals as goal

pub returns-in-None : goal.returns-in-None
returns-in-None c = let a = c.args in
    reads-refused _ _ (read_none a.file a.bytes.now a.n c.kind_of.ensures c.in-None.is) c.refusal.ensures
