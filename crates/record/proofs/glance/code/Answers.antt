-- `record::glance::code` meets its contract.
-- Assumes nothing.
use Rattle.record.specs.machinery.Glance.{code_at}
use Rattle.record.proofs.glance.code.Goals as goal

pub returns : goal.returns
unfolding code_at
returns c = simp (c.has_bar.ensures, c.byte-2.ensures, c.byte.ensures, c.is_full.ensures, c.part-t.ensures)
