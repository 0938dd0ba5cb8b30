-- `field::words::word` meets its contract. The loop's invariant: n is the number of the k bytes passed, and has room for the rest.
-- Assumes nothing.
use mathlib.Core.Path.{◌∙◌}
use native.Mathlib.Nat.{pow-le-pow_right}
use native.Mathlib.Omega.{arith}
use lib.Dec.{lit<}
use Rattle.field.specs.Texts.{base256}
use Rattle.field.proofs.TextLoops.{word_more, word_end, base-bound}
use borrow.Author.Rules.{rules}
use Rattle.field.proofs.words.word.Goals as goal

pub loop-k-init : goal.loop-k-init
unfolding base256
loop-k-init c = search rules

pub overflow_mul-n : goal.overflow_mul-n
overflow_mul-n c = omega (arith, pow-le-pow_right {n = 256} (lit< tt) {i = c.loop-k.k} {j = 7} (omega arith))

pub overflow_add-n : goal.overflow_add-n
overflow_add-n c = omega (arith, pow-le-pow_right {n = 256} (lit< tt) {i = c.loop-k.k} {j = 7} (omega arith))

pub loop-k-preserved : goal.loop-k-preserved
loop-k-preserved c = let p = c.args.part.now in
    let l = c.loop-k in (
      word_more l.k p c.trimmed_len-len.ensures (c.from.ensures ∙ c.padded_byte.ensures) (omega arith) l.invariant.0,
      base-bound l.k l.n c.from.result l.invariant.1 (omega arith),
    )

pub returns : goal.returns
returns c = word_end c.args.part.now (omega arith) c.loop-k.invariant.0
