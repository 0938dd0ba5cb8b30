-- `metadata::cut::cut_lines` meets its contract.
-- Assumes nothing.
use mathlib.Core.Path.{sym, ap, ◌∙◌}
use native.Mathlib.Omega.{arith}
use Rattle.std.specs.Prelude.{Err}
use Rattle.metadata.proofs.CutLaws.{most-past, line-long, cutting-byte, cutting-line, all-cut, all-told, last-past, last-cut, last-held, last-told}
use Rattle.metadata.proofs.cut.cut_lines.Goals as goal

pub returns-then-n-eq-MOST_LINES-clause-cut : goal.returns-then-n-eq-MOST_LINES-clause-cut
returns-then-n-eq-MOST_LINES-clause-cut c = ap Err c.at.ensures ∙ most-past c.loop-i.invariant (omega arith) c.if-n-eq-MOST_LINES.true

pub loop-i-preserved-then-is_mark : goal.loop-i-preserved-then-is_mark
loop-i-preserved-then-is_mark c = let f = c.loop-i.invariant.few in
    cutting-line c.loop-i.invariant (omega arith) (sym c.is_mark.ensures ∙ c.if-is_mark.true) (omega (arith, c.if-n-eq-MOST_LINES.false)) c.told_of.ensures

pub returns-then-i-from-ge-LONGEST-clause-cut : goal.returns-then-i-from-ge-LONGEST-clause-cut
returns-then-i-from-ge-LONGEST-clause-cut c =
    ap Err c.at-then-i-from-ge-LONGEST.ensures ∙ line-long c.loop-i.invariant (omega arith) (sym c.is_mark.ensures ∙ c.if-is_mark.false) c.if-i-from-ge-LONGEST.true

pub loop-i-preserved : goal.loop-i-preserved
loop-i-preserved c = cutting-byte c.loop-i.invariant (omega arith) (sym c.is_mark.ensures ∙ c.if-is_mark.false) (omega (arith, c.if-i-from-ge-LONGEST.false))

pub returns-then-n-eq-MOST_LINES-2-clause-cut : goal.returns-then-n-eq-MOST_LINES-2-clause-cut
returns-then-n-eq-MOST_LINES-2-clause-cut c =
    ap Err c.at-then-n-eq-MOST_LINES-2.ensures ∙ last-past c.loop-i.invariant (omega arith) c.if-from-m.true c.if-n-eq-MOST_LINES-2.true

pub returns-else-n-eq-MOST_LINES-2 : goal.returns-else-n-eq-MOST_LINES-2
returns-else-n-eq-MOST_LINES-2 c =
    let l = c.loop-i.invariant in
    let f = l.few in
    record {
      cut = last-cut l (omega arith) c.if-from-m.true (omega (arith, c.if-n-eq-MOST_LINES-2.false));
      few = omega (arith, c.if-n-eq-MOST_LINES-2.false);
      held = last-held l (omega arith) c.if-from-m.true (omega (arith, c.if-n-eq-MOST_LINES-2.false));
      told = last-told l (omega arith) c.if-from-m.true (omega (arith, c.if-n-eq-MOST_LINES-2.false));
    }

pub returns-else-from-m : goal.returns-else-from-m
returns-else-from-m c =
    let l = c.loop-i.invariant in
    record {
      cut = all-cut l (omega arith) (omega (arith, c.if-from-m.false));
      few = l.few;
      held = l.held;
      told = all-told l (omega arith) (omega (arith, c.if-from-m.false));
    }
