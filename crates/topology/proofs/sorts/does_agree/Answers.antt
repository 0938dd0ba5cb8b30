-- `topology::sorts::does_agree` meets its contract.
-- Assumes nothing.
use mathlib.Core.Path.{refl}
use Rattle.topology.specs.Rules.{agrees}
use Rattle.topology.proofs.sorts.does_agree.Goals as goal

pub returns : goal.returns
unfolding agrees
returns c = refl
