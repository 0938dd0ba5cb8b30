-- The law of 57: linear objects that no tramo names.
-- Assumes nothing.
use Prim.Native.Nat.{ℕ}
use mathlib.Core.Bool.{not}
use mathlib.Core.List.{List}
use lib.ListN.{get_or}
use Rattle.laws.specs.Find.{names}
use Rattle.index.specs.Marks.{Marked}
use Rattle.record.specs.machinery.Columns.{Fills}
use Rattle.record.specs.declared.kind.Kind.TheVariants.{ObLin}
use Rattle.record.specs.Says.{Table}
use Rattle.record.specs.Names.{name_at}
use Rattle.topology.specs.Rules.{tramo_object, object_idle}
use Rattle.topology.proofs.UsedLaws.{hand-marks}

-- 57, by the column of ids
pub object-marks :
    (objects tramos : Table) {ids before marks : List ℕ} {n : ℕ} → Fills ids (λ j. name_at ObLin objects j 1) objects.count n
    → Marked before marks (λ i. not (names (tramo_object tramos) tramos.count (get_or ids i 0))) n
    → Marked before marks (object_idle objects tramos) objects.count
unfolding object_idle
object-marks objects tramos h m = hand-marks (λ x. not (names (tramo_object tramos) tramos.count x)) h m
