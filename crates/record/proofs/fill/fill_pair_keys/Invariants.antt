-- `fill_pair_keys` meets its contract: the loop has read the keys of the records before i, and stands at record i.
-- Assumes nothing.
use Rattle.record.specs.Says.{table_of}
use Rattle.record.specs.Names.{key_of}
use Rattle.record.proofs.ColumnLaws.{Filling, Starts}
use Rattle.record.proofs.fill.fill_pair_keys.Given as goal

abbrev pub invariant-loop-i : goal.invariant-loop-i
invariant-loop-i l = Filling (λ j. key_of l.k (table_of l.s l.k) j) l.n l.initial.out l.out l.i × Starts l.k l.i l.at
