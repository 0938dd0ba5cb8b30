-- `index::tally::count_marked` meets its contract: the library counts the first n marks.
-- Assumes nothing.
use Rattle.std.proofs.Common.{◌∙◌, rules, take, tests}
use Rattle.std.proofs.lemmas.Iterator.{YieldsList-from_slice}
use Rattle.std.proofs.lemmas.Iterator.Consumers.{YieldsList-from_filter, count_from_yields_List}
use Rattle.std.proofs.lemmas.List.Sums.{length-filter}
use Rattle.std.specs.Prelude.{eqb}
use Rattle.index.proofs.MarkLaws.{count-marked}
use Rattle.index.proofs.tally.count_marked.Goals as goal

pub returns-clause-value : goal.returns-clause-value
returns-clause-value c =
    let marks = take c.args.n c.args.marks.now in
    count_from_yields_List c.filter.result _ c.count.ensures.ran
    (YieldsList-from_filter _ (λ m. eqb m 1) (YieldsList-from_slice marks (cc)) c.filter.ensures.closure (λ x r q k. search (rules, tests)))
    ∙ length-filter (λ m. eqb m 1) marks ∙ count-marked c.args.marks.now c.args.n c.requires
