-- `record::kind::Kind::target` meets its contract.
-- Assumes nothing.
use mathlib.Core.Path.{refl, ap₂, ◌∙◌}
use Rattle.laws.specs.Row.{row, each}
use Rattle.record.specs.Table.{Col, target_of}
use Rattle.record.specs.machinery.Packed.{target_file, target_field, target_by}
use Rattle.record.proofs.TableLaws.{everywhere}
use Rattle.record.proofs.PackedLaws.{read_at, target-digits}
use Rattle.record.proofs.kind.Kind.target.Goals as goal

pub returns : goal.returns
unfolding everywhere each row target_of
returns c = c.target_by.ensures ∙ ap₂ target_by (c.digit_at.ensures.value ∙ read_at (λ (x : Col). target_file x.refers) refl refl c.args.self c.args.f c.target_files.ensures) (c.digit_at-2.ensures.value ∙ read_at (λ (x : Col). target_field x.refers) refl refl c.args.self c.args.f c.target_fields.ensures) ∙ target-digits _
