-- `grids::sum::add` meets its contract.
-- Assumes nothing.
use Rattle.grids.specs.Sum.{add_of}
use Rattle.grids.proofs.sum.add.Goals as goal

pub returns-then-too_many : goal.returns-then-too_many
unfolding add_of
returns-then-too_many c = rw (← c.too_many.ensures, c.if-too_many.true)

pub returns : goal.returns
unfolding add_of
returns c = rw (← c.too_many.ensures, c.if-too_many.false) c.sum_of.ensures
