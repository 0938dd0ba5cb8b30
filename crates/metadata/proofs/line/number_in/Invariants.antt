-- `metadata::line::number_in` meets its contract.
-- Assumes nothing.
use Rattle.metadata.proofs.LineLaws.{Reading}
use Rattle.metadata.proofs.line.number_in.Given as goal

abbrev pub invariant-loop-b : goal.invariant-loop-b
invariant-loop-b l = Reading l.t l.n l.b-index
