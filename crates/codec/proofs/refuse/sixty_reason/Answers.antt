-- `codec::refuse::sixty_reason` meets its contract.
-- Assumes nothing.
use mathlib.Core.Path.{sym}
use native.Mathlib.Omega.{arith}
use lib.ListN.{get_or-eq_default}
use Rattle.record.specs.declared.reason.Reason.TheVariants.{LongFile10}
use Rattle.codec.specs.Refusals.{sixty_reasons}
use Rattle.codec.proofs.refuse.sixty_reason.Goals as goal

pub returns-in_default : goal.returns-in_default
returns-in_default c = sym (get_or-eq_default sixty_reasons LongFile10 {n = c.args.j} (omega arith))
