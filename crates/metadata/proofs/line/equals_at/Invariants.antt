-- `metadata::line::equals_at` meets its contract.
-- Assumes nothing.
use Prim.Native.Nat.{◌+◌}
use mathlib.Core.Path.{◌≡◌}
use mathlib.Core.Bool.{false}
use lib.ListN.{drop}
use Rattle.metadata.specs.Told.{equals_from}
use Rattle.metadata.proofs.line.equals_at.Given as goal

abbrev pub invariant-loop-i : goal.invariant-loop-i
invariant-loop-i l = equals_from l.some (drop l.i l.t) + l.i ≡ equals_from false l.t
