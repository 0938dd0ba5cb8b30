-- `record::columns::number_in` meets its contract.
-- Assumes nothing.
use mathlib.Core.Path.{◌∙◌}
use mathlib.Core.List.{[]}
use Rattle.record.proofs.SaysLaws.{number-said, no_number_lem}
use Rattle.record.proofs.columns.number_in.Goals as goal

pub returns-in-Number-clause-value : goal.returns-in-Number-clause-value
returns-in-Number-clause-value c = let a = c.args in
    c.number_in.ensures.value ∙ number-said a.t.now [] a.form c.in-Number.is

pub returns-in_default-clause-value : goal.returns-in_default-clause-value
returns-in_default-clause-value c = let a = c.args in
    no_number_lem a.t.now [] a.form c.in_default.not-Number
