-- `field::number::at_once` meets its contract: low is at most each byte passed; sum is that of the bytes passed, and least what as many zeros
-- sum up to.
-- Assumes nothing.
use Rattle.field.proofs.AtOnceLaws.{Summed}
use Rattle.field.proofs.number.at_once.Given as goal

abbrev pub invariant-loop-k : goal.invariant-loop-k
invariant-loop-k g l = Summed l.t l.k l.low l.sum l.least
