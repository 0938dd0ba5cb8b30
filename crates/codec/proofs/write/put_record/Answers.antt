-- `codec::write::put_record` meets its contract.
-- Assumes nothing.
use mathlib.Core.Path.{sym, ◌∙◌}
use native.Mathlib.Omega.{arith}
use lib.ListN.{length-set}
use Rattle.record.proofs.TableLaws.{sane}
use Rattle.codec.proofs.WriteLaws.{filling-start, fits-here, filling-more, last-place, all-written}
use Rattle.codec.proofs.write.put_record.Goals as goal

pub loop-f-init : goal.loop-f-init
loop-f-init c = filling-start c.args.k _ c.args.buf.now c.requires

pub put_next-at-requires : goal.put_next-at-requires
put_next-at-requires c = (omega (arith, sane c.args.k, c.fields-n.ensures), fits-here c.loop-f.invariant)

pub loop-f-preserved : goal.loop-f-preserved
loop-f-preserved c = let p = c.put_next-at in
    filling-more c.loop-f.invariant p.result c.put_next-at.new.buf (omega (arith, c.fields-n.ensures)) p.ensures.0 c.put_next-at.auto.buf p.ensures.1

pub bounds-buf-at : goal.bounds-buf-at
bounds-buf-at c = omega (arith, last-place c.loop-f.invariant (omega (arith, c.fields-n.ensures)))

pub shape_of-buf : goal.shape_of-buf
shape_of-buf c = length-set c.loop-f.buf c.loop-f.at 10 ∙ c.loop-f.invariant.whole ∙ sym c.requires

pub returns : goal.returns
returns c = all-written c.loop-f.invariant (omega (arith, c.fields-n.ensures))
