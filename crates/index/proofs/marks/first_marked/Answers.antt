-- `index::marks::first_marked` meets its contract: the library's search of the first n marks.
-- Assumes nothing.
use Rattle.std.proofs.Common.{◌∙◌, rules, take, tests}
use Rattle.std.proofs.lemmas.Iterator.{YieldsList-from_slice}
use Rattle.std.proofs.lemmas.Iterator.Search.{position_from_yields_List}
use Rattle.std.specs.Prelude.{eqb}
use Rattle.index.proofs.FoundLaws.{position-found}
use Rattle.index.proofs.marks.first_marked.Goals as goal

pub returns : goal.returns
returns c =
    position_from_yields_List (λ m. eqb m 1) _ _ c.position.result c.position.ensures.ran
    (YieldsList-from_slice (take c.args.n c.args.marks.now) c.iter.ensures.rest) (λ x b q k. search (rules, tests))
    ∙ position-found (λ m. eqb m 1) c.args.marks.now c.args.n c.requires
