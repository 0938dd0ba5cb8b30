-- `fifties::group::reason_in` meets its contract: each number's reason, and 54's with the node's.
-- Assumes nothing.
use native.Mathlib.Omega.{arith}
use Rattle.fifties.proofs.FiftyLaws.{index-under}
use Rattle.fifties.proofs.group.reason_in.Goals as goal

pub overflow_add-result : goal.overflow_add-result
overflow_add-result c = omega (arith, c.unwrap_or.ensures, index-under _ _ c.place_before.ensures, c.requires)
