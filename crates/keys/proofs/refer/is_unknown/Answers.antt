-- `keys::refer::is_unknown` meets its contract. A name that is missing names nothing; another is looked up.
-- Assumes nothing.
use mathlib.Core.Path.{sym}
use Rattle.keys.proofs.ReferLaws.{dangles-missing, dangles-named}
use Rattle.keys.proofs.refer.is_unknown.Goals as goal

pub returns-then-x-eq0 : goal.returns-then-x-eq0
returns-then-x-eq0 c = sym (dangles-missing _ _ _ c.if-x-eq0.true)

pub returns : goal.returns
returns c = sym (dangles-named _ _ _ c.if-x-eq0.false c.is_there.ensures)
