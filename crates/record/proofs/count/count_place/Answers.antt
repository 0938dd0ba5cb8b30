-- `record::count::count_place` meets its contract.
-- Assumes nothing.
use mathlib.Core.Path.{◌∙◌}
use Rattle.record.specs.machinery.Counts.{place_many}
use Rattle.record.proofs.count.count_place.Goals as goal

pub returns : goal.returns
unfolding place_many
returns c = let t = c.tests-t.ensures in record { value = c.count_true.ensures.value ∙ rw t; most = rw t at c.count_true.ensures.most }
