-- `metadata::rules::check_81` meets its contract.
-- Assumes nothing.
use Prim.Native.Nat.{◌+◌}
use Rattle.metadata.specs.Rules.{breaks81}
use Rattle.metadata.proofs.RuleLaws.{Clear}
use Rattle.metadata.proofs.rules.check_81.Given as goal

abbrev pub invariant-loop-i : goal.invariant-loop-i
invariant-loop-i l = Clear (breaks81 l.lines) (l.i + 1)
