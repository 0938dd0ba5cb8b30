-- `metadata::line::unled_part` meets its contract.
-- Assumes nothing.
use mathlib.Core.Path.{◌≡◌}
use lib.ListN.{drop}
use Rattle.metadata.specs.Told.{unled}
use Rattle.metadata.proofs.line.unled_part.Given as goal

abbrev pub invariant-loop-i : goal.invariant-loop-i
invariant-loop-i l = unled (drop l.i l.t) ≡ unled l.t
