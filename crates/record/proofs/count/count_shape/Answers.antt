-- `record::count::count_shape` meets its contract.
-- Assumes nothing.
use mathlib.Core.Path.{◌∙◌}
use Rattle.record.specs.Rules.{breaks10, breaks11}
use Rattle.record.specs.machinery.Counts.{shape_many}
use Rattle.record.proofs.CountingLaws.{bool-bit}
use Rattle.record.proofs.count.count_shape.Goals as goal

pub returns : goal.returns
unfolding shape_many breaks10 breaks11
returns c = rw (c.from.ensures ∙ bool-bit _, c.from-2.ensures ∙ bool-bit _, c.length-n.ensures)
