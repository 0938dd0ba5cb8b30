-- `topology::tops::fill_lines` meets its contract.
-- Assumes nothing.
use borrow.Author.Rules.{rules}
use Rattle.topology.proofs.EachLaws.{each-holds}
use Rattle.topology.proofs.tops.fill_lines.Goals as goal

pub returns : goal.returns
returns c = each-holds _ (λ i x l h. search rules) c.fill_each.ensures
