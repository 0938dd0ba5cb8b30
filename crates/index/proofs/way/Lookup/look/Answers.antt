-- `index::way::Lookup::look` meets its contract. By hints that find every key, or by halving.
-- Assumes nothing.
use Rattle.index.proofs.WayLaws.{guess-sought, look-hinted, look-sorted}
use Rattle.index.proofs.way.Lookup.look.Goals as goal

pub returns-then-self : goal.returns-then-self
returns-then-self c = record { sought = guess-sought _ _ _ _ _ (c.args.self.now.ready.hinted c.if-self.true) c.guess.ensures.guessed c.guess.ensures.same; same = look-hinted _ _ _ _ _ c.if-self.true c.guess.ensures.same }

pub returns-else-self : goal.returns-else-self
returns-else-self c = record { sought = c.find.ensures.sought; same = look-sorted _ _ _ _ _ c.if-self.false c.find.ensures.same }
