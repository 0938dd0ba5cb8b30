-- `field::words::trimmed_len` meets its contract. The loop's invariant: what stands from k on is blank.
-- Assumes nothing.
use Prim.Native.Nat.{◌+◌, ◌-◌}
use mathlib.Core.Path.{◌≡◌, sym, ◌∙◌}
use native.Mathlib.Omega.{arith}
use Rattle.field.specs.Texts.{trim_to}
use Rattle.field.proofs.TextLoops.{trim-blank, trim-stop, length-trimmed}
use Rattle.field.proofs.words.trimmed_len.Goals as goal

pub returns-then-part-k-ne32 : goal.returns-then-part-k-ne32
returns-then-part-k-ne32 c = let l = c.loop-k in
    let p = c.args.part.now in
    let e : l.k - 1 + 1 ≡ l.k = omega arith in
    e ∙ sym (trim-stop l.k p (omega arith) c.if-part-k-ne32.true) ∙ l.invariant ∙ sym (length-trimmed p)

pub loop-k-preserved : goal.loop-k-preserved
loop-k-preserved c = let l = c.loop-k in
    trim-blank l.k c.args.part.now (omega arith) c.if-part-k-ne32.false ∙ l.invariant

pub returns : goal.returns
unfolding trim_to
returns c = let e : c.loop-k.k ≡ 0 = omega arith in
    (rw e at c.loop-k.invariant) ∙ sym (length-trimmed _)
