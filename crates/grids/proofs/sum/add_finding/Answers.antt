-- `grids::sum::add_finding` meets its contract.
-- Assumes nothing.
use Rattle.grids.specs.Sum.{add_finding}
use Rattle.grids.proofs.sum.add_finding.Goals as goal

pub returns-then-too_many : goal.returns-then-too_many
unfolding add_finding
returns-then-too_many c = rw (← c.too_many.ensures, c.if-too_many.true)

pub returns : goal.returns
unfolding add_finding
returns c = rw (← c.too_many.ensures, c.if-too_many.false)
