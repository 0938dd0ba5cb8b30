-- `topology::tops::mark_tips` meets its contract. A mark says whether its vertex is a line's first or last.
-- Assumes nothing.
use borrow.Author.Rules.{rules}
use Rattle.topology.specs.Rules.{is_tip}
use Rattle.topology.proofs.EachLaws.{each-marked}
use Rattle.topology.proofs.tops.mark_tips.Goals as goal

pub returns : goal.returns
unfolding is_tip
returns c = each-marked _ (λ i x l h. search rules) c.fill_each.ensures
