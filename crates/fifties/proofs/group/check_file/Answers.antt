-- `fifties::group::check_file` meets its contract: the file's finding from its tally.
-- Assumes nothing.
use native.Mathlib.Omega.{arith}
use Rattle.topology.specs.Rules.{fifty_reasons}
use Rattle.fifties.proofs.FiftyTallies.{fifty-row, fifty-broken, fifty-fine}
use Rattle.fifties.proofs.group.check_file.Goals as goal

pub reason_in-reason-requires : goal.reason_in-reason-requires
reason_in-reason-requires c = omega (arith, fifty-row _ _ c.requires c.in-Some.is)

pub overflow_add-i : goal.overflow_add-i
overflow_add-i c = omega (arith, fifty-row _ _ c.requires c.in-Some.is)

pub returns-in-Some : goal.returns-in-Some
unfolding fifty_reasons
returns-in-Some c = fifty-broken _ _ c.requires c.in-Some.is
    (rw (← c.file_of.ensures, ← c.reason_in-reason.ensures) c.break_of.ensures)

pub returns-in-None : goal.returns-in-None
returns-in-None c = fifty-fine _ _ c.requires c.in-None.is
