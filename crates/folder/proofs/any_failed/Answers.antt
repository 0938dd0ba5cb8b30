-- `folder::any_failed` meets its contract.
-- Assumes nothing.
use Rattle.std.proofs.Common.{eqb, rules}
use Rattle.laws.proofs.MadeLaws.{any-told}
use Rattle.folder.specs.Folder.{failed, any_failed}
use Rattle.folder.proofs.any_failed.Goals as goal

pub returns : goal.returns
unfolding any_failed
returns c = any-told (λ x. eqb x failed) c.args.lens c.contains.result (search rules) c.contains.ensures.cases
