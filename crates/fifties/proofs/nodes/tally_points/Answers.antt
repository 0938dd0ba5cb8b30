-- `fifties::nodes::tally_points` meets its contract. 55's cell, and no other of the file has a rule.
-- Assumes nothing.
use mathlib.Core.List.{map}
use native.Mathlib.Omega.{arith}
use Rattle.record.specs.Files.{files_of}
use Rattle.record.proofs.ColumnLaws.{read-fills}
use Rattle.topology.proofs.UsedLaws.{counted_start, counted-filled}
use Rattle.fifties.proofs.FiftyTallies.{points-in}
use Rattle.fifties.proofs.nodes.tally_points.Goals as goal

pub mark_astray-requires : goal.mark_astray-requires
mark_astray-requires c = let p = c.requires in
    let l = rw (← c.file_of-ob_pun.ensures) at p.1 in
    let f = read-fills (omega (arith, l, p.2)) c.fill_names-n.ensures in
    let q = c.fill_positions.ensures in (
      omega (arith, f.count, f.long),
      omega (arith, f.count, q.x.long),
      omega (arith, f.count, q.y.long),
      omega (arith, f.count, l, p.5),
      counted_start _ _ _ _ _ p.6 c.clear.ensures,
    )

pub returns : goal.returns
returns c = let p = c.requires in
    let l = rw (← c.file_of-ob_pun.ensures) at p.1 in
    let f = read-fills (omega (arith, l, p.2)) c.fill_names-n.ensures in record { value = points-in (files_of (map (λ x. x.now) c.args.files)) c.file_of-ob_pun.ensures p.0 f c.fill_positions.ensures c.no_tally.ensures c.mark_astray.ensures.marked c.with_marks.ensures; counted = rw c.file_of-ob_pun.ensures at (counted-filled f c.mark_astray.ensures.counted) }
