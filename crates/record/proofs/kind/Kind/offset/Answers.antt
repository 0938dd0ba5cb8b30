-- `record::kind::Kind::offset` meets its contract.
-- Assumes nothing.
use Prim.Native.Nat.{◌/◌, ◌%◌}
use native.Mathlib.Omega.{arith}
use mathlib.Core.Path.{refl}
use Rattle.laws.specs.Row.{row, each}
use Rattle.record.specs.Table.{offset_in, offset_at}
use Rattle.record.proofs.TableLaws.{everywhere, sane, offset-end}
use Rattle.record.proofs.PackedLaws.{read}
use Rattle.record.proofs.kind.Kind.offset.Goals as goal

pub returns-then-f-lt16 : goal.returns-then-f-lt16
unfolding everywhere each row offset_at
returns-then-f-lt16 c = let h = read (λ cs f. offset_in cs f / 16) refl c.args.self c.args.f c.offsets_high.ensures c.if-f-lt16.true in let l = read (λ cs f. offset_in cs f % 16) refl c.args.self c.args.f c.offsets_low.ensures c.if-f-lt16.true in record { value = omega (arith, c.digit.ensures, c.digit-then-f-lt16.ensures); small = omega (arith, c.digit.ensures, c.digit-then-f-lt16.ensures) }

pub returns-else-f-lt16 : goal.returns-else-f-lt16
returns-else-f-lt16 c = let s = sane c.args.self in let e = offset-end c.args.self c.args.f (omega arith) in record { value = omega arith; small = omega arith }
