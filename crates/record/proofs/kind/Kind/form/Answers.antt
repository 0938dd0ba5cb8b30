-- `record::kind::Kind::form` meets its contract.
-- Assumes nothing.
use mathlib.Core.Path.{refl, ap, ◌∙◌}
use Rattle.laws.specs.Row.{row, each}
use Rattle.record.specs.Table.{Col, form_at}
use Rattle.record.specs.machinery.Packed.{form_digit, form_of}
use Rattle.record.proofs.TableLaws.{everywhere}
use Rattle.record.proofs.PackedLaws.{read_at, form-digit}
use Rattle.record.proofs.kind.Kind.form.Goals as goal

pub returns : goal.returns
unfolding everywhere each row form_at
returns c = c.form_of.ensures ∙ ap form_of (c.digit_at.ensures.value ∙ read_at (λ (x : Col). form_digit x.form) refl refl c.args.self c.args.f c.forms.ensures) ∙ form-digit _
