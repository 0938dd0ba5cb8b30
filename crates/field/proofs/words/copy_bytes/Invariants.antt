-- `field::words::copy_bytes` meets its contract. The loop's invariant: the first k bytes are the text's.
-- Assumes nothing.
use mathlib.Core.Path.{◌≡◌}
use lib.ListN.{length, take}
use Rattle.field.proofs.words.copy_bytes.Given as goal

abbrev pub invariant-loop-k : goal.invariant-loop-k
invariant-loop-k l = (length l.part ≡ length l.text) × (take l.k l.part ≡ take l.k l.text)
