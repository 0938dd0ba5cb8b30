-- `metadata::words::is_word` meets its contract.
-- Assumes nothing.
use mathlib.Core.Path.{◌≡◌}
use lib.ListN.{drop}
use Rattle.metadata.specs.Words.{is_word}
use Rattle.metadata.proofs.words.is_word.Given as goal

abbrev pub invariant-loop-i : goal.invariant-loop-i
invariant-loop-i l = is_word (drop l.i l.word) (drop l.i l.t) ≡ is_word l.word l.t
