-- `index::look::upto` meets its contract. The keys of an index ascend, so the library's halving ends where they pass the limit.
-- Assumes nothing.
use Rattle.std.proofs.Common.{rules, take, leb, get_or}
use Rattle.std.proofs.lemmas.List.Sorted.{IsPartitionPoint-from_clause, IsPartitionedBy-leb}
use Rattle.index.proofs.LookLaws.{index-rises, point-bracket}
use Rattle.index.proofs.WayLaws.{bracket-upto}
use Rattle.index.proofs.look.upto.Goals as goal

pub returns : goal.returns
returns c =
    let a = c.args in
    let parted = IsPartitionedBy-leb (λ r. get_or a.keys.now r 0) (take a.n a.order.now) a.limit (index-rises c.requires) in
    let point = IsPartitionPoint-from_clause (λ r. leb (get_or a.keys.now r 0) a.limit) (take a.n a.order.now) c.partition_point.result c.partition_point.ensures.partitioned parted (λ x r q k. search rules) in
    let b = point-bracket c.requires c.partition_point.ensures.bound point in record { bracket = b; same = bracket-upto b }
