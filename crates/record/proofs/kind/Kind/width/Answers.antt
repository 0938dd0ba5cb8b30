-- `record::kind::Kind::width` meets its contract.
-- Assumes nothing.
use Prim.Native.Nat.{◌/◌, ◌%◌}
use native.Mathlib.Omega.{arith}
use mathlib.Core.Path.{refl}
use Rattle.laws.specs.Row.{row, each}
use Rattle.record.specs.Table.{Col, width_at}
use Rattle.record.proofs.TableLaws.{everywhere}
use Rattle.record.proofs.PackedLaws.{read_at}
use Rattle.record.proofs.kind.Kind.width.Goals as goal

pub returns : goal.returns
unfolding everywhere each row width_at
returns c = let h = read_at (λ (x : Col). x.width / 16) refl refl c.args.self c.args.f c.widths_high.ensures in let l = read_at (λ (x : Col). x.width % 16) refl refl c.args.self c.args.f c.widths_low.ensures in record { value = omega (arith, c.digit_at.ensures.value, c.digit_at-2.ensures.value); small = omega (arith, c.digit_at.ensures.small, c.digit_at-2.ensures.small) }
