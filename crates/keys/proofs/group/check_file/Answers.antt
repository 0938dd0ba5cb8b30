-- `keys::group::check_file` meets its contract: the file's finding from its tally.
-- Assumes nothing.
use native.Mathlib.Omega.{arith}
use Rattle.keys.proofs.KeyTallies.{key_row, key-broken, key-fine}
use Rattle.keys.proofs.group.check_file.Goals as goal

pub reason_in-reason-requires : goal.reason_in-reason-requires
reason_in-reason-requires c = omega (arith, key_row _ _ _ c.requires c.in-Some.is)

pub overflow_add-i : goal.overflow_add-i
overflow_add-i c = omega (arith, key_row _ _ _ c.requires c.in-Some.is)

pub returns-in-Some : goal.returns-in-Some
returns-in-Some c = key-broken _ _ _ c.requires c.in-Some.is
    (rw (← c.reason_in-reason.ensures) c.break_of.ensures)

pub returns-in-None : goal.returns-in-None
returns-in-None c = key-fine _ _ _ c.requires c.in-None.is
