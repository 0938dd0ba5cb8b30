-- `codec::values::missing_value` meets its contract.
-- Assumes nothing.
use mathlib.Core.Path.{refl}
use Rattle.codec.proofs.values.missing_value.Goals as goal

pub returns : goal.returns
returns c = refl
