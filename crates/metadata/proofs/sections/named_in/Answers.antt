-- `metadata::sections::named_in` meets its contract.
-- Assumes nothing.
use mathlib.Core.Path.{◌≡◌, sym, ap, ◌∙◌}
use native.Mathlib.Omega.{arith}
use lib.ListN.{length}
use Rattle.metadata.specs.Rules.{file_told, is_name}
use Rattle.metadata.proofs.RuleLaws.{named-head, named_here, named_more, named_end, no_name}
use Rattle.metadata.proofs.sections.named_in.Goals as goal

pub returns-then-is_head : goal.returns-then-is_head
returns-then-is_head c = let l = c.loop-t in
    named-head c.args.lines.now l.t-index (omega arith) (sym c.is_head.ensures ∙ c.if-is_head.true) ∙ l.invariant

pub returns-in-Name : goal.returns-in-Name
returns-in-Name c = let l = c.loop-t in
    sym (ap file_told c.in-Name.is) ∙ named_here c.args.lines.now l.t-index (omega arith) (sym c.is_head.ensures ∙ c.if-is_head.false) (ap is_name c.in-Name.is) ∙ l.invariant

pub loop-t-preserved : goal.loop-t-preserved
loop-t-preserved c = let l = c.loop-t in
    named_more c.args.lines.now l.t-index (omega arith) (sym c.is_head.ensures ∙ c.if-is_head.false) (no_name _ c.in_default.not-Name) ∙ l.invariant

pub returns : goal.returns
returns c = let l = c.loop-t in
    let e : l.t-index ≡ length c.args.lines.now = omega arith in
    named_end c.args.lines.now ∙ rw e at l.invariant
