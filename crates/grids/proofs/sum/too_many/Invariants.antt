-- `grids::sum::too_many` meets its contract.
-- Assumes nothing.
use mathlib.Core.Path.{◌≡◌}
use mathlib.Core.Bool.{false}
use Rattle.laws.specs.Find.{any}
use Rattle.judge.specs.Broken.{groups}
use Rattle.grids.proofs.SumLaws.{over_at}
use Rattle.grids.proofs.sum.too_many.Given as goal

abbrev pub invariant-loop-g : goal.invariant-loop-g
invariant-loop-g l = any (over_at l.a l.b l.i) l.g ≡ false

abbrev pub invariant-loop-i : goal.invariant-loop-i
invariant-loop-i l = any (λ j. any (over_at l.a l.b j) groups) l.i ≡ false
