-- `objects::group::tally_any` meets its contract: no composites, few records, or any.
-- Assumes nothing.
use mathlib.Core.Path.{sym, ◌∙◌}
use native.Mathlib.Nat.{min-le_left}
use native.Mathlib.Omega.{arith}
use Rattle.objects.proofs.SeventyLaws.{empty-tally}
use Rattle.objects.proofs.group.tally_any.Goals as goal

pub returns-then-rows-eq0 : goal.returns-then-rows-eq0
returns-then-rows-eq0 c = empty-tally _ (sym (rw c.file_of.ensures at c.rows.ensures.value) ∙ c.if-rows-eq0.true) c.no_tally.ensures

pub tally_composites-requires : goal.tally_composites-requires
tally_composites-requires c = record { within = record { each = (c.all_few.ensures c.if-all_few.true).each }; sizes = (omega arith, omega arith) }

pub tally_composites-requires-else-all_few : goal.tally_composites-requires-else-all_few
tally_composites-requires-else-all_few c = record { within = record { each = λ k. min-le_left _ _ }; sizes = (omega arith, omega arith) }
