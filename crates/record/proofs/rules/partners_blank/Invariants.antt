-- `record::rules::partners_blank` meets its contract: the loop stops at the first partner that is not blank.
-- Assumes nothing.
use Prim.Native.Nat.{◌+◌}
use Rattle.laws.proofs.RowLaws.{Left}
use Rattle.field.specs.declared.class.Class.TheVariants.{Blank}
use Rattle.field.specs.Bytes.{all_of}
use Rattle.record.specs.Table.{back_at, ahead_at}
use Rattle.record.specs.Cut.{text_of}
use Rattle.record.specs.Rules.{partners_blank}
use Rattle.record.proofs.rules.partners_blank.Given as goal

abbrev pub invariant-loop-j : goal.invariant-loop-j
invariant-loop-j l = Left (all_of Blank) (text_of l.rec l.k) (partners_blank l.rec l.k l.f) l.from (back_at l.k l.f + ahead_at l.k l.f + 1) l.j
