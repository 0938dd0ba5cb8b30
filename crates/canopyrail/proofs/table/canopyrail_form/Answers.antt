-- `canopyrail::table::canopyrail_form` meets its contract.
-- Assumes nothing.
use borrow.Author.Rules.{rules}
use Rattle.record.specs.Table.{on_file}
use Rattle.canopyrail.proofs.table.canopyrail_form.Goals as goal

pub returns : goal.returns
unfolding on_file
returns c = rw (← c.kind_of.ensures) (search rules)
