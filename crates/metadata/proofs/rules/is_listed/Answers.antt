-- `metadata::rules::is_listed` meets its contract.
-- Assumes nothing.
use mathlib.Core.Bool.{◌&&◌}
use mathlib.Core.Path.{◌≡◌, sym, ap₂, ◌∙◌}
use native.Mathlib.Omega.{arith}
use lib.ListN.{length}
use Rattle.laws.proofs.FindLaws.{any-start, any_next, any-true}
use Rattle.metadata.specs.Rules.{listed}
use Rattle.metadata.proofs.SectionLaws.{search-past, leads-is, Lists}
use Rattle.metadata.proofs.rules.is_listed.Goals as goal

pub loop-t-init : goal.loop-t-init
loop-t-init c = (any-start _, c.of-names.ensures c.args.lines.now)

pub returns-then-is_first-names : goal.returns-then-is_first-names
unfolding listed
returns-then-is_first-names c = let l = c.loop-t in
    let ts = c.args.lines.now in
    sym (any-true (Lists ts c.args.file) (length ts) {k = l.t-index} (omega arith) (sym (ap₂ ◌&&◌ (leads-is ts l.t-index l.invariant.1 c.is_first.ensures) c.names.ensures) ∙ c.if-is_first-names.true))

pub loop-t-preserved : goal.loop-t-preserved
loop-t-preserved c = let l = c.loop-t in
    let ts = c.args.lines.now in (
      any_next (Lists ts c.args.file) l.invariant.0 (sym (ap₂ ◌&&◌ (leads-is ts l.t-index l.invariant.1 c.is_first.ensures) c.names.ensures) ∙ c.if-is_first-names.false),
      search-past ts l.t-index l.invariant.1 c.past-names.ensures,
    )

pub returns : goal.returns
unfolding listed
returns c = let l = c.loop-t in
    let e : l.t-index ≡ length c.args.lines.now = omega arith in
    sym (rw e at l.invariant.0)
