-- `codec::write::hold` meets its contract.
-- Assumes nothing.
use Rattle.codec.proofs.StoreLaws.{storing-start, laying-more, laid-says}
use native.Mathlib.Omega.{arith}
use borrow.Author.Rules.{rules}
use Rattle.codec.proofs.write.hold.Goals as goal

pub loop-i-init : goal.loop-i-init
loop-i-init c = let p = c.requires in
    (storing-start _ _ _ _ _ _ _ _ (omega (arith, p), omega (arith, p), omega (arith, p), omega (arith, p)), λ j l. absurd (omega arith))

pub loop-i-preserved : goal.loop-i-preserved
loop-i-preserved c = let p = c.put_text in
    laying-more c.args.k c.args.v _ _ _ _ {ys = c.put_text.new.part} c.form.result c.get-x.result c.loop-i.invariant (search rules) c.get-x.ensures (search rules) (search rules) c.form.ensures c.held_length.ensures c.put_text.auto.part p.ensures

pub returns : goal.returns
returns c = laid-says c.args.k c.args.v _ _ _ _ c.loop-i.invariant.0 (omega arith) c.loop-i.invariant.1
