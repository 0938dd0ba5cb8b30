-- `canopyrail::one::has_room` meets its contract.
-- Assumes nothing.
use native.Mathlib.Omega.{arith}
use Rattle.std.proofs.lemmas.Bool.Decides.{nat_tests}
use Rattle.canopyrail.specs.Lent.{roomy}
use Rattle.canopyrail.proofs.one.has_room.Goals as goal

pub returns-then-lengths-ge-MOST_FIELDS : goal.returns-then-lengths-ge-MOST_FIELDS
unfolding roomy
returns-then-lengths-ge-MOST_FIELDS c = grind (arith, nat_tests)

pub returns-else-lengths-ge-MOST_FIELDS : goal.returns-else-lengths-ge-MOST_FIELDS
unfolding roomy
returns-else-lengths-ge-MOST_FIELDS c = grind (arith, nat_tests)
