-- `field::words::copy_bytes` meets its contract. The loop's invariant: the first k bytes are the text's.
-- Assumes nothing.
use mathlib.Core.Path.{refl, sym, ◌∙◌}
use native.Mathlib.Omega.{arith}
use lib.ListN.{length-set}
use Rattle.field.proofs.TextLoops.{bytes-more, bytes-end}
use Rattle.field.proofs.words.copy_bytes.Goals as goal

pub loop-k-init : goal.loop-k-init
loop-k-init c = (c.requires, refl)

pub loop-k-preserved : goal.loop-k-preserved
loop-k-preserved c = (length-set _ _ _ ∙ c.loop-k.invariant.0, bytes-more c.loop-k.k c.loop-k.part c.args.text.now _ (omega (arith, c.loop-k.invariant.0)) (omega (arith, c.loop-k.invariant.0)) refl c.loop-k.invariant.1)

pub returns : goal.returns
returns c = bytes-end {k = c.loop-k.k} c.loop-k.part c.args.text.now (sym c.loop-k.invariant.0) (omega (arith, c.loop-k.invariant.0)) c.loop-k.invariant.1
