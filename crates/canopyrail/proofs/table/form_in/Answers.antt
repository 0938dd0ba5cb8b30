-- `canopyrail::table::form_in` meets its contract.
-- Assumes nothing.
use mathlib.Core.Path.{sym, ◌∙◌}
use borrow.Author.Tests.{ne_eqb}
use Rattle.canopyrail.specs.Lent.{lent_form}
use Rattle.canopyrail.proofs.table.form_in.Goals as goal

pub returns-then-width-eq0 : goal.returns-then-width-eq0
unfolding lent_form
returns-then-width-eq0 c = rw (sym c.width.ensures.value ∙ c.if-width-eq0.true)

pub returns-else-width-eq0 : goal.returns-else-width-eq0
unfolding lent_form
returns-else-width-eq0 c = rw (ne_eqb _ _ (λ e. c.if-width-eq0.false (c.width.ensures.value ∙ e)), ← c.form.ensures) c.form_number.ensures
