-- `topology::spotted::fill_spotted` meets its contract.
-- Assumes nothing.
use borrow.Author.Rules.{rules}
use Rattle.topology.proofs.SpottedLaws.{spotted-each}
use Rattle.topology.proofs.spotted.fill_spotted.Goals as goal

pub returns : goal.returns
returns c = spotted-each (λ j x i l h u. search rules) c.fill_each.ensures
