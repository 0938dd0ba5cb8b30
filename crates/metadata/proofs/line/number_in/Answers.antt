-- `metadata::line::number_in` meets its contract.
-- Assumes nothing.
use mathlib.Core.Path.{refl, sym, ◌∙◌}
use native.Mathlib.Omega.{arith}
use Rattle.metadata.proofs.LineLaws.{reading-more, odd_byte, odd-large, odd-empty, number_is}
use Rattle.metadata.proofs.line.number_in.Goals as goal

pub returns-then-t-eq0 : goal.returns-then-t-eq0
returns-then-t-eq0 c = odd-empty c.args.t.now c.if-t-eq0.true

pub returns-then-not-has : goal.returns-then-not-has
returns-then-not-has c = odd_byte c.loop-b.invariant (omega arith) (sym c.has.ensures ∙ c.if-not-has.true)

pub returns-then-n-ge1000000000000000000 : goal.returns-then-n-ge1000000000000000000
returns-then-n-ge1000000000000000000 c = odd-large c.loop-b.invariant (omega arith) refl c.if-n-ge1000000000000000000.true

pub loop-b-preserved : goal.loop-b-preserved
loop-b-preserved c = reading-more c.loop-b.invariant (omega arith) refl (sym c.has.ensures ∙ c.if-not-has.false) (omega (arith, c.if-n-ge1000000000000000000.false))

pub returns : goal.returns
returns c = number_is c.loop-b.invariant (omega arith) c.if-t-eq0.false
