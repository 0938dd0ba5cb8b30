-- `keys::refer::mark_present` meets its contract. The loop's invariant: the marks of the first `i` records say in which of them the field is there.
-- Assumes nothing.
use mathlib.Core.Bool.{not}
use lib.Dec.{eqb}
use Rattle.index.specs.Marks.{Marked}
use Rattle.record.specs.Names.{name_at}
use Rattle.record.specs.Says.{table_of}
use Rattle.keys.proofs.refer.mark_present.Given as goal

abbrev pub invariant-loop-i : goal.invariant-loop-i
invariant-loop-i l = Marked l.initial.marks l.marks (λ j. not (eqb (name_at l.k (table_of l.s l.k) j l.f) 0)) l.i
