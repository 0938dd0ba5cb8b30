-- `metadata::rules::check_83` meets its contract.
-- Assumes nothing.
use Prim.Native.Nat.{◌+◌}
use mathlib.Core.Path.{◌≡◌}
use Rattle.metadata.specs.declared.told.Key.TheVariants.{Name}
use Rattle.metadata.specs.Rules.{breaks83}
use Rattle.metadata.specs.Searches.{search_at}
use Rattle.metadata.proofs.RuleLaws.{Clear}
use Rattle.metadata.proofs.SectionLaws.{Top}
use Rattle.metadata.proofs.rules.check_83.Given as goal

abbrev pub invariant-loop-i : goal.invariant-loop-i
invariant-loop-i l = Clear (breaks83 l.counts l.lines) (l.i + 1) × (l.names ≡ search_at Name l.lines l.i) × Top l.lines l.top l.i
