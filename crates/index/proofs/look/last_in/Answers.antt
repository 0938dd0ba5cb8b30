-- `index::look::last_in` meets its contract. The answer is the record at the last place that has a key up to the limit.
-- Assumes nothing.
use native.Mathlib.Omega.{arith}
use Rattle.index.proofs.LookLaws.{last-nothing, last-at}
use Rattle.index.proofs.WayLaws.{last-at-none, last-at-some}
use Rattle.index.proofs.look.last_in.Goals as goal

pub returns-then-c-eq0 : goal.returns-then-c-eq0
returns-then-c-eq0 c = record { last_in = last-nothing c.requires c.upto-c.ensures.bracket c.if-c-eq0.true; same = last-at-none _ c.upto-c.ensures.same c.if-c-eq0.true }

pub returns : goal.returns
returns c = record { last_in = last-at c.requires c.upto-c.ensures.bracket _ (omega arith); same = last-at-some _ c.upto-c.ensures.same c.if-c-eq0.false }
