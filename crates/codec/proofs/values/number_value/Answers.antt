-- `codec::values::number_value` meets its contract.
-- Assumes nothing.
use mathlib.Core.Path.{refl}
use Rattle.codec.specs.Values.{value_of}
use Rattle.codec.proofs.values.number_value.Goals as goal

pub returns : goal.returns
unfolding value_of
returns c = refl
