-- `field::words::not_given` meets its contract.
-- Assumes nothing.
use Rattle.field.proofs.TextLoops.{not-given-is}
use Rattle.field.proofs.words.not_given.Goals as goal

pub returns : goal.returns
returns c = rw not-given-is (simp (c.byte.ensures, c.byte-b.ensures))
