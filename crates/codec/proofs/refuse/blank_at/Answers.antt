-- `codec::refuse::blank_at` meets its contract.
-- Assumes nothing.
use Rattle.codec.proofs.RefuseLaws.{blank-sign, blank-other}
use borrow.Enum.Refused.{opened}
use Rattle.codec.proofs.refuse.blank_at.Goals as goal

pub returns-in-Sign : goal.returns-in-Sign
returns-in-Sign c = let a = c.args in
    λ n z t. blank-sign a.k n z a.lengths.now t a.f c.form.ensures c.in-Sign.is c.held_in.ensures

pub returns-in_default : goal.returns-in_default
returns-in_default c = let a = c.args in
    λ n z t. blank-other a.k n z a.lengths.now t a.f c.form.ensures (opened c.in_default.in_default-own.keys2) c.held_in-in_default.ensures
