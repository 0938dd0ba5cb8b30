-- `record::glance::position` meets its contract.
-- Assumes nothing.
use Rattle.record.specs.machinery.Glance.{position_at}
use Rattle.record.proofs.GlanceSeen.{position-inside}
use Rattle.record.proofs.glance.position.Goals as goal

pub returns : goal.returns
unfolding position_at
returns c e = let a = c.args in
    rw (← position-inside a.rec.now a.o, ← c.part-t.ensures) (rw (c.gone.ensures, c.signed-3.ensures, c.has_bar-2.ensures, c.signed-2.ensures, c.has_bar.ensures, c.signed.ensures) at e)
