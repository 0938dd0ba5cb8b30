-- `codec::write::put_blanks` meets its contract.
-- Assumes nothing.
use mathlib.Core.Path.{◌∙◌}
use Rattle.codec.proofs.WriteLaws.{put-none}
use Rattle.codec.proofs.write.put_blanks.Goals as goal

pub returns : goal.returns
returns c = c.put_text.ensures ∙ put-none _ _
