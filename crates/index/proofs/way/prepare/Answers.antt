-- `index::way::prepare` meets its contract. Hints, where every key has its place, or an order that is sorted.
-- Assumes nothing.
use native.Mathlib.Omega.{arith}
use Rattle.index.specs.Keys.{listed}
use Rattle.index.proofs.TwiceLaws.{distinct_none}
use Rattle.index.proofs.WayLaws.{way-sorted}
use Rattle.index.proofs.way.prepare.Goals as goal

pub returns : goal.returns
returns c = way-sorted _ _ _ c.requires.0 c.requires.1 (c.sort.ensures.index (c.sort.ensures.room c.requires.1 (omega arith))) (distinct_none (listed c.args.keys.now) c.args.n c.distinct.ensures)
