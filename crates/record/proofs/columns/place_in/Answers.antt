-- `record::columns::place_in` meets its contract.
-- Assumes nothing.
use mathlib.Core.List.{[]}
use mathlib.Core.Path.{sym, ◌∙◌}
use Rattle.record.specs.Says.{place_in}
use Rattle.record.proofs.SaysLaws.{missing-before, none-missing, place_read, no_place}
use Rattle.record.proofs.columns.place_in.Goals as goal

pub returns-then-is_missing_in-clause-value : goal.returns-then-is_missing_in-clause-value
returns-then-is_missing_in-clause-value c = let a = c.args in
    none-missing a.t.now a.b.now place_in a.form (missing-before _ _ _ _ ∙ sym c.is_missing_in.ensures ∙ c.if-is_missing_in.true)

pub returns-then-byte-n-clause-value : goal.returns-then-byte-n-clause-value
returns-then-byte-n-clause-value c = let a = c.args in
    let there = missing-before a.form a.t.now a.b.now [] ∙ sym c.is_missing_in.ensures ∙ c.if-is_missing_in.false in
    place_read a.t.now a.b.now a.form c.in-Size.is there c.byte.ensures c.number_in-n.ensures.value c.if-byte-n.true

pub returns-else-byte-n-clause-value : goal.returns-else-byte-n-clause-value
returns-else-byte-n-clause-value c = let a = c.args in
    let there = missing-before a.form a.t.now a.b.now [] ∙ sym c.is_missing_in.ensures ∙ c.if-is_missing_in.false in
    place_read a.t.now a.b.now a.form c.in-Size.is there c.byte.ensures c.number_in-n.ensures.value c.if-byte-n.false

pub returns-in_default-clause-value : goal.returns-in_default-clause-value
returns-in_default-clause-value c = no_place c.args.t.now c.args.b.now c.args.form c.in_default.not-Size
