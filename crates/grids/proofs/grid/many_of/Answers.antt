-- `grids::grid::many_of` meets its contract.
-- Assumes nothing.
use Rattle.std.proofs.Common.{rules}
use Rattle.index.specs.declared.tally.Tally.{Tally}
use Rattle.laws.proofs.MadeLaws.{mapped}
use Rattle.grids.proofs.grid.many_of.Goals as goal

pub returns : goal.returns
returns c = mapped (λ (t : Tally). t.many) (λ t r q k. (search rules, search rules)) (search rules) c.map.ensures.items
