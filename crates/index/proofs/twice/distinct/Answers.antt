-- `index::twice::distinct` meets its contract. The loop's invariant: the neighbours before place `i` differ (`Apart`).
-- Assumes nothing.
use Rattle.index.proofs.TwiceLaws.{repeat-here, repeat-none}
use native.Mathlib.Omega.{arith}
use Rattle.index.proofs.twice.distinct.Goals as goal

pub returns-then-keys-a : goal.returns-then-keys-a
returns-then-keys-a c = repeat-here c.requires _ (omega arith) (omega arith) c.if-keys-a.true

pub returns : goal.returns
returns c = repeat-none c.requires c.loop-i-test.false c.loop-i.invariant
