-- `topology::ends::mark_endless` meets its contract. A mark says whether the line has no highest vertex.
-- Assumes nothing.
use borrow.Author.Rules.{rules}
use Rattle.topology.proofs.EachLaws.{each-marked}
use Rattle.topology.proofs.ends.mark_endless.Goals as goal

pub returns : goal.returns
returns c = each-marked _ (λ i x l h. search rules) c.fill_each.ensures
