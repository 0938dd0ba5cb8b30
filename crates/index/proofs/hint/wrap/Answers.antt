-- `index::hint::wrap` meets its contract, by the table's size.
-- Assumes nothing.
use mathlib.Core.Path.{refl}
use native.Mathlib.Omega.{arith}
use Rattle.index.proofs.HintLaws.{wrapped-few, wrapped-many}
use Rattle.index.proofs.hint.wrap.Goals as goal

pub returns-then-hints-lt32749 : goal.returns-then-hints-lt32749
returns-then-hints-lt32749 c = record { value = wrapped-few _ _ c.if-hints-lt32749.true refl; within = omega arith }

pub returns-else-hints-lt32749 : goal.returns-else-hints-lt32749
returns-else-hints-lt32749 c = record { value = wrapped-many _ _ c.if-hints-lt32749.false refl; within = omega arith }
