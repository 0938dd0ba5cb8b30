-- `metadata::sections::has_key` meets its contract.
-- Assumes nothing.
use mathlib.Core.Path.{◌≡◌, sym, ◌∙◌}
use native.Mathlib.Omega.{arith}
use lib.ListN.{length}
use Rattle.metadata.specs.Searches.{is_key}
use Rattle.metadata.proofs.RuleLaws.{met-head, met-here, met-more, met-end}
use Rattle.metadata.proofs.sections.has_key.Goals as goal

pub returns-then-is_head : goal.returns-then-is_head
returns-then-is_head c = let l = c.loop-t in
    sym (met-head (is_key c.args.key) c.args.lines.now l.t-index (omega arith) (sym c.is_head.ensures ∙ c.if-is_head.true)) ∙ l.invariant

pub returns-then-has : goal.returns-then-has
returns-then-has c = let l = c.loop-t in
    sym (met-here (is_key c.args.key) c.args.lines.now l.t-index (omega arith) (sym c.is_head.ensures ∙ c.if-is_head.false) (sym c.has.ensures ∙ c.if-has.true)) ∙ l.invariant

pub loop-t-preserved : goal.loop-t-preserved
loop-t-preserved c = let l = c.loop-t in
    met-more (is_key c.args.key) c.args.lines.now l.t-index (omega arith) (sym c.is_head.ensures ∙ c.if-is_head.false) (sym c.has.ensures ∙ c.if-has.false) ∙ l.invariant

pub returns : goal.returns
returns c = let l = c.loop-t in
    let e : l.t-index ≡ length c.args.lines.now = omega arith in
    sym (met-end (is_key c.args.key) c.args.lines.now) ∙ rw e at l.invariant
