-- `record::glance::is_sign` meets its contract.
-- Assumes nothing.
use Rattle.record.specs.machinery.Glance.{sign_in}
use Rattle.record.proofs.glance.is_sign.Goals as goal

pub returns : goal.returns
unfolding sign_in
returns c = simp (c.every.ensures, c.is_full.ensures, c.byte-b.ensures)
