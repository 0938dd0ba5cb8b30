-- `canopyrail::one::canopyrail_write` meets its contract.
-- Assumes nothing.
use Rattle.canopyrail.proofs.LentLaws.{lent_says, lent-writes}
use Rattle.canopyrail.proofs.one.canopyrail_write.Goals as goal

pub returns : goal.returns
returns c = let a = c.args in
    lent-writes c.answer_word.ensures (c.write_held.ensures _ (λ k e. lent_says a.numbers.now a.coordinates.now a.lengths.now a.texts.now c.reach-n.result c.reach-n.ensures.1 k))
