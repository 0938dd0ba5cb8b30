-- `fill_places` meets its contract: the loop has read the places of the records before i, and stands at record i.
-- Assumes nothing.
use Prim.Native.Nat.{◌^◌}
use Rattle.laws.specs.Row.{Narrow}
use Rattle.record.specs.Says.{table_of, place_in}
use Rattle.record.proofs.ColumnLaws.{Filling, Starts}
use Rattle.record.proofs.fill.fill_places.Given as goal

abbrev pub invariant-loop-i : goal.invariant-loop-i
invariant-loop-i l = Filling (λ j. place_in ((table_of l.s l.k).says j l.f)) l.n l.initial.out l.out l.i × Starts l.k l.i l.at × Narrow l.out l.i (2 ^ 40)
