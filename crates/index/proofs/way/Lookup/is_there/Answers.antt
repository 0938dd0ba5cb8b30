-- `index::way::Lookup::is_there` meets its contract. A record is found, or none has the key.
-- Assumes nothing.
use mathlib.Core.Path.{◌∙◌}
use Rattle.index.proofs.LookLaws.{sought-is}
use Rattle.index.proofs.way.Lookup.is_there.Goals as goal

pub returns : goal.returns
returns c = c.is_some.ensures ∙ sought-is _ _ _ _ c.look.ensures.sought
