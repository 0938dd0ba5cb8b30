-- `topology::sorts::mark_idle` meets its contract. A mark says that all four marks are there.
-- Assumes nothing.
use borrow.Author.Rules.{rules}
use Rattle.topology.proofs.EachLaws.{each-marked}
use Rattle.topology.proofs.sorts.mark_idle.Goals as goal

pub returns : goal.returns
returns c = each-marked _ (λ i x l h. search rules) c.fill_each.ensures
