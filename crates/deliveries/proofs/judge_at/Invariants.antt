-- `deliveries::judge_at` meets its contract. The loop's invariant: the lengths so far, of which each is small, and the places after them.
use Rattle.std.proofs.Common.{◌+◌, ◌*◌, ◌^◌, ◌<◌, ◌≤◌}
use Rattle.deliveries.proofs.judge_at.Given as goal

abbrev pub invariant-loop-n : goal.invariant-loop-n
invariant-loop-n g l = (l.next ≤ l.at + 8 * l.n) × (l.at < l.from) × (l.from ≤ l.at + 64 + 10 ^ 8 * l.n)
