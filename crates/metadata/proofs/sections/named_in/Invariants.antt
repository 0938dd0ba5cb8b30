-- `metadata::sections::named_in` meets its contract.
-- Assumes nothing.
use mathlib.Core.Path.{◌≡◌}
use lib.ListN.{drop}
use Rattle.metadata.specs.Rules.{named}
use Rattle.metadata.proofs.sections.named_in.Given as goal

abbrev pub invariant-loop-t : goal.invariant-loop-t
invariant-loop-t l = named (drop l.t-index l.lines) ≡ named l.lines
