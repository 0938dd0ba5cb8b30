-- `codec::refuse::lacking` meets its contract.
-- Assumes nothing.
use Rattle.codec.proofs.refuse.lacking.Goals as goal

pub returns-then-gone : goal.returns-then-gone
returns-then-gone c = λ n z t. simp (c.partners_missing.ensures n z t, c.must.ensures, c.if-gone.true)

pub returns-else-gone : goal.returns-else-gone
returns-else-gone c = λ n z t. rw c.if-gone.false
