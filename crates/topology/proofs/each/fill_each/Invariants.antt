-- `topology::each::fill_each` meets its contract. The loop's invariant: the first `i` numbers are in.
-- Assumes nothing.
use Rattle.topology.specs.machinery.Each.{Each}
use Rattle.topology.proofs.each.fill_each.Given as goal

abbrev pub invariant-loop-i : goal.invariant-loop-i
invariant-loop-i g l = Each (λ j x. goal.F-post g l.value j x) l.initial.out l.out l.i
