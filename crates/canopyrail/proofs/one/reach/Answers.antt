-- `canopyrail::one::reach` meets its contract.
-- Assumes nothing.
use native.Mathlib.Omega.{arith}
use Rattle.canopyrail.specs.Lent.{is_lent}
use Rattle.canopyrail.proofs.LentLaws.{below-min, text-reached}
use Rattle.canopyrail.proofs.one.reach.Goals as goal

pub returns : goal.returns
unfolding is_lent
returns c = (omega arith, λ i. rw (c.min-3.ensures, c.min-2.ensures, c.min.ensures, below-min, below-min, below-min, text-reached c.args.texts i))
