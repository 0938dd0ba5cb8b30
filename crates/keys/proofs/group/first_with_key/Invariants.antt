-- `keys::group::first_with_key` meets its contract. The loop's invariant: no record before `j` has the key.
-- Assumes nothing.
use lib.Dec.{eqb}
use Rattle.record.specs.Says.{table_of}
use Rattle.record.specs.Names.{key_of}
use Rattle.index.proofs.FoundLaws.{Passed}
use Rattle.keys.proofs.group.first_with_key.Given as goal

abbrev pub invariant-loop-j : goal.invariant-loop-j
invariant-loop-j l = Passed (λ i. eqb (key_of l.k (table_of l.s l.k) i) l.x) l.n l.j
