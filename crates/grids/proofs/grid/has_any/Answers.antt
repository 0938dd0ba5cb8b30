-- `grids::grid::has_any` meets its contract.
-- Assumes nothing.
use Rattle.std.proofs.Common.{◌≡◌, ltb, true, false, rules}
use borrow.Author.Tests.{tests}
use Rattle.std.proofs.lemmas.Iterator.{cases_from_any, YieldsList-from_slice}
use Rattle.laws.proofs.MadeLaws.{any-told}
use Rattle.grids.proofs.grid.has_any.Goals as goal

pub returns : goal.returns
returns c =
    any-told (ltb 0) c.args.counts c.any.result (search rules)
    (cases_from_any _ _ _ (λ x. ltb 0 x ≡ true) (λ x. ltb 0 x ≡ false) c.any.ensures.ran (YieldsList-from_slice c.args.counts cc) (λ x q k. search (rules, tests)) (λ x q k. search (rules, tests)))
