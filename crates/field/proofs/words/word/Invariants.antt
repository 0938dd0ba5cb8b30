-- `field::words::word` meets its contract. The loop's invariant: n is the number of the k bytes passed, and has room for the rest.
-- Assumes nothing.
use Prim.Native.Nat.{◌<◌, ◌^◌}
use mathlib.Core.Path.{◌≡◌}
use Rattle.field.specs.Texts.{padded, trimmed, base256}
use Rattle.field.proofs.words.word.Given as goal

abbrev pub invariant-loop-k : goal.invariant-loop-k
invariant-loop-k l = (l.n ≡ base256 l.k (padded 8 (trimmed l.part))) × (l.n < 256 ^ l.k)
