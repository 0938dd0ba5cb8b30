-- `codec::write::write_held` meets its contract.
-- Assumes nothing.
use mathlib.Core.Path.{sym, ◌∙◌}
use Rattle.codec.proofs.WriteLaws.{writes-none, writes-file}
use Rattle.codec.proofs.write.write_held.Goals as goal

pub returns-in-None : goal.returns-in-None
returns-in-None c = λ v same. writes-none _ _ _ c.kind_of.result c.kind_of.ensures c.in-None.is

pub returns-in-Some : goal.returns-in-Some
returns-in-Some c = let p = c.write_in in
    λ v same. writes-file _ _ _ c.kind_of.result c.kind_of.ensures c.in-Some.k p.result c.write_in.new.room c.in-Some.is (p.ensures v (same c.in-Some.k (sym c.kind_of.ensures ∙ c.in-Some.is)))
