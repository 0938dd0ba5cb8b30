-- `canopyrail::delivery::canopyrail_count` meets its contract.
-- Assumes nothing.
use borrow.Author.Rules.{rules}
use Rattle.record.specs.Table.{on_file}
use Rattle.canopyrail.proofs.delivery.canopyrail_count.Goals as goal

pub returns : goal.returns
unfolding on_file
returns c = rw (← c.kind_of.ensures) (search rules)
