-- `record::kind::Kind::domain` meets its contract.
-- Assumes nothing.
use mathlib.Core.Path.{refl, ap, ◌∙◌}
use Rattle.laws.specs.Row.{row, each}
use Rattle.record.specs.Table.{Col, domain_at}
use Rattle.record.specs.machinery.Packed.{domain_digit, domain_of}
use Rattle.record.proofs.TableLaws.{everywhere}
use Rattle.record.proofs.PackedLaws.{read_at, domain-digit}
use Rattle.record.proofs.kind.Kind.domain.Goals as goal

pub returns : goal.returns
unfolding everywhere each row domain_at
returns c = c.domain_of.ensures ∙ ap domain_of (c.digit_at.ensures.value ∙ read_at (λ (x : Col). domain_digit x.domain) refl refl c.args.self c.args.f c.domains.ensures) ∙ domain-digit _
