-- `metadata::sections::Search::of` meets its contract.
-- Assumes nothing.
use mathlib.Core.Path.{refl}
use Rattle.metadata.specs.Rules.{in_file, seen}
use Rattle.metadata.proofs.sections.Search.of.Goals as goal

pub returns : goal.returns
unfolding in_file seen
returns c = λ ts. refl
