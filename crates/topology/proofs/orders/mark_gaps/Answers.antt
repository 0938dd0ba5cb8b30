-- `topology::orders::mark_gaps` meets its contract. A mark says 50 of its vertex.
-- Assumes nothing.
use borrow.Author.Rules.{rules}
use Rattle.topology.proofs.EachLaws.{each-marked}
use Rattle.topology.proofs.orders.mark_gaps.Goals as goal

pub returns : goal.returns
returns c = each-marked _ (λ i x l h. search rules) c.fill_each.ensures
