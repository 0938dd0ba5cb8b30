-- `metadata::rules::check_81` meets its contract.
-- Assumes nothing.
use Prim.Native.Nat.{◌+◌}
use mathlib.Core.Path.{◌≡◌, sym, ap, ◌∙◌}
use native.Mathlib.Omega.{arith}
use lib.ListN.{length}
use Rattle.std.specs.Prelude.{Err}
use Rattle.metadata.specs.declared.fault.Rule.TheVariants.{OddLine81}
use Rattle.metadata.specs.Rules.{breaks81}
use Rattle.metadata.proofs.RuleLaws.{clear-81, clear-more, found, unfound, is-81}
use Rattle.metadata.proofs.rules.check_81.Goals as goal

pub loop-i-init : goal.loop-i-init
loop-i-init c = clear-81 c.args.lines.now

pub returns-then-is_nothing : goal.returns-then-is_nothing
returns-then-is_nothing c = let l = c.loop-i in
    let ts = c.args.lines.now in
    ap Err c.at.ensures ∙ found OddLine81 (breaks81 ts) (length ts + 1) (l.i + 1) l.invariant (omega arith) (is-81 ts l.i ∙ sym c.is_nothing.ensures ∙ c.if-is_nothing.true)

pub loop-i-preserved : goal.loop-i-preserved
loop-i-preserved c = let l = c.loop-i in
    let ts = c.args.lines.now in
    clear-more (breaks81 ts) (l.i + 1) l.invariant (is-81 ts l.i ∙ sym c.is_nothing.ensures ∙ c.if-is_nothing.false)

pub returns : goal.returns
returns c = let l = c.loop-i in
    let ts = c.args.lines.now in
    let e : l.i ≡ length ts = omega arith in
    unfound OddLine81 (breaks81 ts) (length ts + 1) (rw e at l.invariant)
