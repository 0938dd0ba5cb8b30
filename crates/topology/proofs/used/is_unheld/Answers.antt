-- `topology::used::is_unheld` meets its contract.
-- Assumes nothing.
use mathlib.Core.Path.{ap}
use Rattle.laws.specs.Count.{bit}
use Rattle.index.proofs.LookLaws.{sought-below}
use Rattle.topology.proofs.UsedLaws.{free}
use Rattle.topology.proofs.used.is_unheld.Goals as goal

pub is_free-requires : goal.is_free-requires
is_free-requires c = sought-below _ _ _ _ c.holder-found.ensures.sought c.requires.0

pub returns : goal.returns
returns c = free _ c.requires.1 c.holder-found.ensures.sought c.holder-found.ensures.same (ap bit c.is_free.ensures)
