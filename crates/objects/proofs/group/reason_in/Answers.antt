-- `objects::group::reason_in` meets its contract: each number's reason.
-- Assumes nothing.
use Rattle.objects.proofs.SeventyLaws.{reason-else}
use Rattle.objects.proofs.group.reason_in.Goals as goal

pub returns-in_default : goal.returns-in_default
returns-in_default c = reason-else _ c.in_default.in_default-own.rest
