-- `topology::sorts::mark_odd` meets its contract. A mark says that the code of its node disagrees.
-- Assumes nothing.
use borrow.Author.Rules.{rules}
use Rattle.topology.proofs.EachLaws.{each-marked}
use Rattle.topology.proofs.sorts.mark_odd.Goals as goal

pub returns : goal.returns
returns c = each-marked _ (λ i x l h. search rules) c.fill_each.ensures
