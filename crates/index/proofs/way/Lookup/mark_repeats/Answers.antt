-- `index::way::Lookup::mark_repeats` meets its contract. Keys that are apart are none an earlier one.
-- Assumes nothing.
use Rattle.index.proofs.NumberLaws.{repeats-none}
use Rattle.index.proofs.way.Lookup.mark_repeats.Goals as goal

pub returns-then-self : goal.returns-then-self
returns-then-self c = repeats-none c.args.self.now.keys.now (c.args.self.now.ready.apart c.if-self.true) c.clear.ensures
