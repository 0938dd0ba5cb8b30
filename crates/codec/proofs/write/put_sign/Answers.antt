-- `codec::write::put_sign` meets its contract.
-- Assumes nothing.
use mathlib.Core.Path.{ap, ◌∙◌}
use mir.Syntax.{w64}
use mir.Val.{SFits}
use mir.Facts.{to_z-of_z}
use Rattle.field.specs.Signs.{sign_byte}
use Rattle.codec.proofs.WriteLaws.{sign-given, sign-missing}
use borrow.Author.Rules.{rules}
use Rattle.codec.proofs.write.put_sign.Goals as goal

pub returns-then-len-eq0 : goal.returns-then-len-eq0
returns-then-len-eq0 c = c.put_blanks.ensures ∙ sign-missing _ c.args.len c.args.coordinate c.if-len-eq0.true

pub returns-else-len-eq0 : goal.returns-else-len-eq0
returns-else-len-eq0 c = let z = c.args.coordinate in
    let b : SFits w64 z = search rules in
    c.put_text.ensures ∙ sign-given _ _ c.args.len z c.if-len-eq0.false (c.sign_byte.ensures ∙ ap sign_byte (to_z-of_z b))
