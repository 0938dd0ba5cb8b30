-- `record::glance::signed` meets its contract.
-- Assumes nothing.
use Rattle.record.specs.machinery.Glance.{signed_at}
use Rattle.record.proofs.glance.signed.Goals as goal

pub returns : goal.returns
unfolding signed_at
returns c = simp (c.is_full.ensures, c.has_bar.ensures, c.is_sign.ensures, c.part.ensures, c.part-n.ensures)
