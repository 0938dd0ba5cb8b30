-- `metadata::rules::check_numbers` meets its contract.
-- Assumes nothing.
use Prim.Native.Nat.{◌+◌}
use mathlib.Core.Path.{◌≡◌}
use Rattle.metadata.specs.Rules.{differs, file_of}
use Rattle.metadata.specs.Searches.{is_key, search_at}
use Rattle.metadata.proofs.RuleLaws.{Clear}
use Rattle.metadata.proofs.rules.check_numbers.Given as goal

abbrev pub invariant-loop-i : goal.invariant-loop-i
invariant-loop-i l = Clear (differs (is_key l.fn.key) l.numbers l.lines) (l.i + 1) × (l.search ≡ search_at l.fn.key l.lines l.i) × (l.file ≡ file_of l.lines l.i)
