-- `record::kind::Kind::must` meets its contract.
-- Assumes nothing.
use Prim.Native.Nat.{ℕ}
use mathlib.Core.Path.{refl, ap, ◌∙◌}
use lib.Dec.{eqb}
use Rattle.laws.specs.Row.{pick, row, each}
use Rattle.record.specs.Table.{Col, must_at, required}
use Rattle.record.proofs.TableLaws.{everywhere}
use Rattle.record.proofs.PackedLaws.{read_at, one-picked}
use Rattle.record.proofs.kind.Kind.must.Goals as goal

pub returns : goal.returns
unfolding everywhere each row must_at
returns c = ap (λ (n : ℕ). eqb n 1) (c.digit_at.ensures.value ∙ read_at (λ (x : Col). pick (required x.must) 1 0) refl refl c.args.self c.args.f c.musts.ensures) ∙ one-picked _
