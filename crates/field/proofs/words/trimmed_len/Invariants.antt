-- `field::words::trimmed_len` meets its contract. The loop's invariant: what stands from k on is blank.
-- Assumes nothing.
use mathlib.Core.Path.{◌≡◌}
use lib.ListN.{length}
use Rattle.field.specs.Texts.{trim_to}
use Rattle.field.proofs.words.trimmed_len.Given as goal

abbrev pub invariant-loop-k : goal.invariant-loop-k
invariant-loop-k l = trim_to l.k l.part ≡ trim_to (length l.part) l.part
