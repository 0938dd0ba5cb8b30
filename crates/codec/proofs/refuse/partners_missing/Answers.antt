-- `codec::refuse::partners_missing` meets its contract: the loop stops at the first partner that is not blank.
-- Assumes nothing.
use native.Mathlib.Omega.{arith}
use Rattle.laws.proofs.RowLaws.{left-all, left-more, left-stop, left-none}
use Rattle.codec.specs.Refusals.{blank_at, partners_missing}
use Rattle.codec.specs.machinery.Held.{held_at, say_by}
use Rattle.codec.proofs.RefuseLaws.{partners-near}
use Rattle.codec.proofs.refuse.partners_missing.Goals as goal

pub overflow_add-n : goal.overflow_add-n
overflow_add-n c = omega arith

pub overflow_add-n-2 : goal.overflow_add-n-2
overflow_add-n-2 c = omega arith

pub loop-j-init : goal.loop-j-init
unfolding partners_missing
loop-j-init c = λ n z t. left-all (λ b. b) (blank_at c.args.k (say_by c.args.k (held_at n z c.args.lengths.now t))) (omega arith) (omega arith)

pub overflow_add-from : goal.overflow_add-from
overflow_add-from c = let a = c.args in
    omega (arith, partners-near a.k a.f)

pub blank_at-requires : goal.blank_at-requires
blank_at-requires c = let a = c.args in
    omega (arith, partners-near a.k a.f)

pub loop-j-preserved : goal.loop-j-preserved
loop-j-preserved c = λ n z t. left-more (c.loop-j.invariant n z t) (c.blank_at.ensures n z t) c.loop-j-test.true c.if-not-blank_at.false

pub returns-then-not-blank_at : goal.returns-then-not-blank_at
returns-then-not-blank_at c = λ n z t. left-stop (c.loop-j.invariant n z t) (c.blank_at.ensures n z t) c.loop-j-test.true c.if-not-blank_at.true

pub returns : goal.returns
returns c = λ n z t. left-none (c.loop-j.invariant n z t) c.loop-j-test.false
