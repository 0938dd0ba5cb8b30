-- `record::kind::Kind::ahead` meets its contract.
-- Assumes nothing.
use native.Mathlib.Omega.{arith}
use mathlib.Core.Path.{refl, ◌∙◌}
use Rattle.laws.specs.Row.{row, each}
use Rattle.record.specs.Table.{Col, ahead_at}
use Rattle.record.proofs.TableLaws.{everywhere}
use Rattle.record.proofs.PackedLaws.{read_at}
use Rattle.record.proofs.kind.Kind.ahead.Goals as goal

pub returns : goal.returns
unfolding everywhere each row ahead_at
returns c = record { value = c.digit_at.ensures.value ∙ read_at (λ (x : Col). x.ahead) refl refl c.args.self c.args.f c.aheads.ensures; small = omega (arith, c.digit_at.ensures.small) }
