-- `record::glance::nowhere` meets its contract.
-- Assumes nothing.
use Rattle.record.specs.machinery.Glance.{nowhere_at}
use Rattle.record.proofs.GlanceSeen.{nowhere-inside}
use Rattle.record.proofs.glance.nowhere.Goals as goal

pub returns : goal.returns
unfolding nowhere_at
returns c e = let a = c.args in
    rw (← nowhere-inside a.rec.now a.o, ← c.part-t.ensures) (rw (c.gone-3.ensures, c.has_bar-2.ensures, c.gone-2.ensures, c.has_bar.ensures, c.gone.ensures) at e)
