-- `grids::grid::grid_of` meets its contract.
-- Assumes nothing.
use mathlib.Core.List.{map}
use Rattle.record.specs.Files.{files_of}
use Rattle.grids.proofs.GridLaws.{Quiet}
use Rattle.grids.proofs.grid.grid_of.Given as goal

abbrev pub invariant-loop-t : goal.invariant-loop-t
invariant-loop-t l = Quiet (files_of (map (λ x. x.now) l.files)) l.t
