-- `record::columns::is_missing_in` meets its contract.
-- Assumes nothing.
use mathlib.Core.Path.{◌∙◌}
use mathlib.Core.List.{[]}
use Rattle.record.proofs.SaysLaws.{missing-sign, missing-other}
use Rattle.record.proofs.columns.is_missing_in.Goals as goal

pub returns-in-Sign : goal.returns-in-Sign
returns-in-Sign c = let a = c.args in
    missing-sign a.t.now [] a.form c.in-Sign.is

pub returns-in_default : goal.returns-in_default
returns-in_default c = let a = c.args in
    c.all.ensures ∙ missing-other a.t.now [] a.form c.in_default.not-Sign
