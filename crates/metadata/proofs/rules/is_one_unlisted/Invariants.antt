-- `metadata::rules::is_one_unlisted` meets its contract.
-- Assumes nothing.
use mathlib.Core.Path.{◌≡◌}
use mathlib.Core.Bool.{false}
use Rattle.laws.specs.Find.{any}
use Rattle.metadata.proofs.SectionLaws.{Unlisted}
use Rattle.metadata.proofs.rules.is_one_unlisted.Given as goal

abbrev pub invariant-loop-file : goal.invariant-loop-file
invariant-loop-file l = any (Unlisted l.counts l.lines) l.file-index ≡ false
