-- `deliveries::judge_all` ends: each delivery is judged at a later place.
use Rattle.std.proofs.Common.{◌-◌, length}
use Rattle.deliveries.proofs.judge_all.Given as goal

abbrev pub decreases-loop-at : goal.decreases-loop-at
decreases-loop-at g l = length l.s - l.at
