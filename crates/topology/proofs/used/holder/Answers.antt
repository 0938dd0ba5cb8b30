-- `topology::used::holder` meets its contract. Where hints find every id and no two are equal, an id's look-up finds its own record.
-- Assumes nothing.
use Rattle.topology.proofs.UsedLaws.{look_self, sought-self}
use Rattle.topology.proofs.used.holder.Goals as goal

pub returns-then-ids : goal.returns-then-ids
returns-then-ids c = record { sought = sought-self _ _ _ c.requires; same = look_self _ c.args.ids.now.ready c.if-ids.true c.requires }
