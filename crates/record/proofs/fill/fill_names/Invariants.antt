-- `fill_names` meets its contract: the loop has read the names of the records before i, and stands at record i.
-- Assumes nothing.
use Rattle.record.specs.Says.{table_of}
use Rattle.record.specs.Names.{name_at}
use Rattle.record.proofs.ColumnLaws.{Filling, Starts}
use Rattle.record.proofs.fill.fill_names.Given as goal

abbrev pub invariant-loop-i : goal.invariant-loop-i
invariant-loop-i l = Filling (λ j. name_at l.k (table_of l.s l.k) j l.f) l.n l.initial.out l.out l.i × Starts l.k l.i l.at
