-- `topology::used::mark_unheld` meets its contract.
-- Assumes nothing.
use borrow.Author.Rules.{rules}
use Rattle.topology.proofs.UsedLaws.{unheld-each}
use Rattle.topology.proofs.used.mark_unheld.Goals as goal

pub returns : goal.returns
returns c = unheld-each (λ i x l h. search rules) c.fill_each.ensures
