-- `codec::write::write` meets its contract.
-- Assumes nothing.
use Rattle.codec.proofs.WriteLaws.{writes-none, writes-file}
use Rattle.codec.proofs.write.write.Goals as goal

pub returns-in-None : goal.returns-in-None
returns-in-None c = writes-none _ _ _ c.kind_of.result c.kind_of.ensures c.in-None.is

pub returns-in-Some : goal.returns-in-Some
returns-in-Some c = let p = c.write_values in
    writes-file _ _ _ c.kind_of.result c.kind_of.ensures c.in-Some.k p.result c.write_values.new.room c.in-Some.is p.ensures
