-- `objects::group::check_file` meets its contract: the file's finding from its tally.
-- Assumes nothing.
use native.Mathlib.Omega.{arith}
use Rattle.objects.proofs.SeventyLaws.{seventy-row, seventy-broken, seventy-fine}
use Rattle.objects.proofs.group.check_file.Goals as goal

pub overflow_add-first : goal.overflow_add-first
overflow_add-first c = omega (arith, seventy-row _ _ c.requires c.in-Some.is)

pub returns-in-Some : goal.returns-in-Some
returns-in-Some c = seventy-broken _ _ c.requires c.in-Some.is (rw (← c.reason_in-reason.ensures) c.break_of.ensures)

pub returns-in-None : goal.returns-in-None
returns-in-None c = seventy-fine _ _ c.requires c.in-None.is
