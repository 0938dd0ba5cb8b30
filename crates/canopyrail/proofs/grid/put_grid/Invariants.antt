-- `canopyrail::grid::put_grid` meets its contract.
-- Assumes nothing.
use Prim.Native.Nat.{◌/◌, ◌%◌}
use Rattle.judge.specs.Broken.{groups}
use Rattle.grids.specs.Sum.{cell_at}
use Rattle.laws.proofs.PutLaws.{Putting}
use Rattle.canopyrail.proofs.grid.put_grid.Given as goal

abbrev pub invariant-loop-c : goal.invariant-loop-c
invariant-loop-c l = Putting (λ n. cell_at l.grid (n / groups) (n % groups)) l.initial.cells l.cells l.c
