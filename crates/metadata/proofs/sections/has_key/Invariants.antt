-- `metadata::sections::has_key` meets its contract.
-- Assumes nothing.
use mathlib.Core.Path.{◌≡◌}
use lib.ListN.{drop}
use Rattle.metadata.specs.Rules.{met}
use Rattle.metadata.specs.Searches.{is_key}
use Rattle.metadata.proofs.sections.has_key.Given as goal

abbrev pub invariant-loop-t : goal.invariant-loop-t
invariant-loop-t l = met (is_key l.key) (drop l.t-index l.lines) ≡ met (is_key l.key) l.lines
