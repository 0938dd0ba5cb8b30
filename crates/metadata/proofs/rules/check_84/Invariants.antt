-- `metadata::rules::check_84` meets its contract.
-- Assumes nothing.
use Prim.Native.Nat.{◌+◌}
use mathlib.Core.Path.{◌≡◌}
use Rattle.metadata.specs.declared.told.Key.TheVariants.{Name, Count, Size}
use Rattle.metadata.specs.Rules.{breaks84}
use Rattle.metadata.specs.Searches.{search_at}
use Rattle.metadata.proofs.RuleLaws.{Clear}
use Rattle.metadata.proofs.rules.check_84.Given as goal

abbrev pub invariant-loop-i : goal.invariant-loop-i
invariant-loop-i l = Clear (breaks84 l.lines) (l.i + 1) × (l.names ≡ search_at Name l.lines l.i) × (l.counts ≡ search_at Count l.lines l.i) × (l.sizes ≡ search_at Size l.lines l.i)
