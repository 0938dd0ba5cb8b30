-- `codec::write::put_record` meets its contract.
-- Assumes nothing.
use Rattle.codec.specs.machinery.Held.{held, say_by}
use Rattle.codec.proofs.WriteLaws.{Filling}
use Rattle.codec.proofs.write.put_record.Given as goal

abbrev pub invariant-loop-f : goal.invariant-loop-f
invariant-loop-f l = Filling l.k (say_by l.k (held l.h)) l.buf l.at l.f
