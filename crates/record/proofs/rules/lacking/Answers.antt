-- `record::rules::lacking` meets its contract.
-- Assumes nothing.
use native.Mathlib.Omega.{arith}
use mathlib.Core.Path.{◌∙◌, sym}
use Rattle.record.proofs.RuleLaws.{partners-none}
use Rattle.record.proofs.rules.lacking.Goals as goal

pub returns-then-back-ahead-eq0 : goal.returns-then-back-ahead-eq0
returns-then-back-ahead-eq0 c = simp (c.if-gone.true, sym c.must.ensures ∙ c.if-must.false, partners-none c.args.rec.now c.args.k c.args.f (omega arith), c.requires.known)
