-- `topology::spots::fill_spots` meets its contract.
-- Assumes nothing.
use borrow.Author.Rules.{rules}
use Rattle.topology.proofs.EachLaws.{each-fills}
use Rattle.topology.proofs.spots.fill_spots.Goals as goal

pub returns : goal.returns
returns c = each-fills _ (λ i x l h. search rules) c.requires.0 c.requires.4 c.fill_each.ensures
