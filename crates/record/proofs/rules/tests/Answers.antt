-- `record::rules::tests` meets its contract.
-- Assumes nothing.
use Rattle.record.specs.Rules.{breaks22, breaks23, breaks24, breaks25, not_number, missing_in}
use Rattle.record.proofs.rules.tests.Goals as goal

pub returns : goal.returns
unfolding breaks22 breaks23 breaks24 breaks25 not_number missing_in
returns c = simp (c.unfit.ensures, c.lacking.ensures, c.no_bar.ensures, c.bad_end.ensures, c.says_not_given.ensures, c.not_text-no_text.ensures, c.not_number-no_number.ensures, c.all-blank.ensures, c.field-t.ensures, c.form-form.ensures)
