-- `field::number::has_digits` meets its contract: every number is below the twentieth power of ten.
-- Assumes nothing.
use mathlib.Core.Path.{sym}
use Rattle.field.proofs.NumberLoops.{below_power}
use Rattle.field.proofs.number.has_digits.Goals as goal

pub returns-else-w-lt20 : goal.returns-else-w-lt20
returns-else-w-lt20 c = sym (below_power c.args.n c.args.w c.ranges.n.fits c.if-w-lt20.false)
