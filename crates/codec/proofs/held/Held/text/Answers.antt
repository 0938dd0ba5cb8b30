-- `codec::held::Held::text` meets its contract.
-- Assumes nothing.
use mathlib.Core.Path.{◌∙◌}
use Rattle.codec.specs.machinery.Held.{text_held}
use Rattle.codec.proofs.held.Held.text.Goals as goal

pub returns : goal.returns
unfolding text_held
returns c = c.part.ensures ∙ rw c.saturating_sub.ensures
