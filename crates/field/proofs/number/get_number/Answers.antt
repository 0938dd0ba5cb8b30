-- `field::number::get_number` meets its contract. The loop's invariant: n is the number of the k bytes passed, and is small.
-- Assumes nothing.
use Prim.Native.Nat.{◌≤◌}
use mathlib.Core.Path.{◌∙◌}
use native.Mathlib.Omega.{arith}
use Rattle.field.specs.Digits.{digits_number}
use Rattle.field.proofs.NumberLoops.{number_more, number-end, bound-more}
use borrow.Author.Rules.{rules}
use Rattle.field.proofs.number.get_number.Goals as goal

pub loop-k-init : goal.loop-k-init
unfolding digits_number
loop-k-init c = search rules

pub loop-k-preserved : goal.loop-k-preserved
loop-k-preserved c =
    let small : c.digit_of.result ≤ 207 = omega (arith, c.digit_of.ensures, c.type_inv.part c.loop-k.k) in
    let l = c.loop-k in (
      omega (arith, c.digit_of.ensures, number_more l.k c.args.part.now),
      bound-more l.k l.n c.digit_of.result l.invariant.1 small,
    )

pub returns-clause-value : goal.returns-clause-value
returns-clause-value c = c.loop-k.invariant.0 ∙ number-end c.args.part.now (omega arith)
