-- `metadata::rules::is_listed` meets its contract.
-- Assumes nothing.
use mathlib.Core.Path.{◌≡◌}
use mathlib.Core.Bool.{false}
use Rattle.laws.specs.Find.{any}
use Rattle.metadata.specs.declared.told.Key.TheVariants.{Name}
use Rattle.metadata.specs.Searches.{search_at}
use Rattle.metadata.proofs.SectionLaws.{Lists}
use Rattle.metadata.proofs.rules.is_listed.Given as goal

abbrev pub invariant-loop-t : goal.invariant-loop-t
invariant-loop-t l = (any (Lists l.lines l.file) l.t-index ≡ false) × (l.names ≡ search_at Name l.lines l.t-index)
