-- `canopyrail::delivery::all_files` meets its contract.
-- Assumes nothing.
use mathlib.Core.List.{[], map}
use Rattle.std.proofs.Common.{get_or, rules}
use Rattle.laws.proofs.MadeLaws.{made_by}
use Rattle.canopyrail.proofs.CallLaws.{lent-files}
use Rattle.canopyrail.proofs.delivery.all_files.Goals as goal

pub returns : goal.returns
returns c = lent-files _ _ (made_by (λ x. x.now) (λ n. get_or (map (λ x. x.now) c.args.files.now) n []) (λ n r q k. (search rules, search rules)) c.from_fn.ensures.items)
