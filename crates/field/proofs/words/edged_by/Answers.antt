-- `field::words::edged_by` meets its contract.
-- Assumes nothing.
use mathlib.Core.Path.{◌∙◌}
use Rattle.field.proofs.TextLaws.{edged-first, edged-none}
use native.Mathlib.Omega.{arith}
use Rattle.field.proofs.words.edged_by.Goals as goal

pub returns-then-len-eq0 : goal.returns-then-len-eq0
returns-then-len-eq0 c = let a = c.args in
    edged-none a.b a.text.now ∙ rw c.if-len-eq0.true

pub returns : goal.returns
returns c = let a = c.args in
    rw (edged-first a.b a.len a.text.now (omega arith)) (simp (c.byte-2.ensures, c.byte.ensures))
