-- `field::class::Class::all` meets its contract: a first byte that is not of the class tells.
-- Assumes nothing.
use mathlib.Core.Bool.{true}
use mathlib.Core.Path.{sym, ◌∙◌}
use native.Mathlib.Omega.{arith}
use Rattle.field.proofs.TextLoops.{class-end}
use Rattle.field.proofs.DigitLaws.{not-all}
use Rattle.field.proofs.class.Class.all.Goals as goal

pub returns-then-t-eq0 : goal.returns-then-t-eq0
returns-then-t-eq0 c = let a = c.args in sym (class-end a.self true a.t.now 0 (omega arith))

pub returns-else-has : goal.returns-else-has
returns-else-has c = let a = c.args in
    sym (not-all a.self a.t.now 0 (omega arith) (sym c.has.ensures ∙ c.if-has.false))
