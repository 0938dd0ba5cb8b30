-- `codec::read::read` meets its contract.
-- Assumes nothing.
use Rattle.codec.specs.Calls.{read_of}
use Rattle.codec.proofs.read.read.Goals as goal

pub returns-in-None : goal.returns-in-None
unfolding read_of
returns-in-None c = rw (← c.kind_of.ensures, c.in-None.is)

pub returns-in-Some : goal.returns-in-Some
unfolding read_of
returns-in-Some c = rw (← c.kind_of.ensures, c.in-Some.is) c.read_in.ensures
