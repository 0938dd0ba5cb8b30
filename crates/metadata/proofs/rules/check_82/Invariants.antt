-- `metadata::rules::check_82` meets its contract.
-- Assumes nothing.
use Rattle.metadata.proofs.RuleLaws.{Versions}
use Rattle.metadata.proofs.rules.check_82.Given as goal

abbrev pub invariant-loop-i : goal.invariant-loop-i
invariant-loop-i l = Versions l.lines l.some l.i
