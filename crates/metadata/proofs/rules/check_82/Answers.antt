-- `metadata::rules::check_82` meets its contract.
-- Assumes nothing.
use mathlib.Core.Bool.{not, or-true, or-false}
use mathlib.Core.Path.{◌≡◌, ap, ◌∙◌}
use native.Mathlib.Omega.{arith}
use lib.ListN.{length}
use Rattle.std.specs.Prelude.{Err}
use Rattle.metadata.specs.Rules.{is_wrong}
use Rattle.metadata.proofs.RuleLaws.{versions-start, versions-more, wrong-here, all_right, no-version, none_told}
use Rattle.metadata.proofs.rules.check_82.Goals as goal
use Rattle.metadata.proofs.rules.check_82.Goals.{in-Version+else-not-one, in_default}

pub loop-i-init : goal.loop-i-init
loop-i-init c = versions-start c.args.lines.now

pub returns-then-not-one : goal.returns-then-not-one
returns-then-not-one c = ap Err c.at.ensures ∙ wrong-here c.loop-i.invariant (ap is_wrong c.in-Version.is ∙ ap not c.if-not-one.true) (omega arith)

pub loop-i-preserved : goal.loop-i-preserved
loop-i-preserved c =
    elim c.match-t.branch [
      | in-Version+else-not-one w ↦ versions-more c.loop-i.invariant (ap is_wrong w.in-Version.is ∙ ap not w.if-not-one.false) (rw (w.some-is, w.in-Version.is, or-true))
      | in_default w ↦ let n = none_told _ w.in_default.not-Version in versions-more c.loop-i.invariant n.0 (rw (w.some-is, n.1, or-false))
    ]

pub returns-then-some : goal.returns-then-some
returns-then-some c = let e : c.loop-i.i ≡ length c.args.lines.now = omega arith in
    all_right (rw e at c.loop-i.invariant) c.if-some.true

pub returns-else-some : goal.returns-else-some
returns-else-some c = let e : c.loop-i.i ≡ length c.args.lines.now = omega arith in
    ap Err c.at-else-some.ensures ∙ no-version (rw e at c.loop-i.invariant) c.if-some.false
