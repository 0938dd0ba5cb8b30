-- `record::table::digit_at` meets its contract.
-- Assumes nothing.
use native.Mathlib.Omega.{arith}
use borrow.Author.Tests.{lt-ltb, le-ltb}
use Rattle.record.specs.machinery.Packed.{digit_at}
use borrow.Author.Rules.{rules}
use Rattle.record.proofs.table.digit_at.Goals as goal

pub returns-then-f-lt16 : goal.returns-then-f-lt16
unfolding digit_at
returns-then-f-lt16 c = record { value = rw (lt-ltb c.args.f 16 c.if-f-lt16.true) c.digit.ensures; small = omega arith }

pub returns-else-f-lt16 : goal.returns-else-f-lt16
unfolding digit_at
returns-else-f-lt16 c = record { value = rw (le-ltb c.args.f 16 c.if-f-lt16.false); small = search rules }
