-- `fifties::nodes::tally_nodes` meets its contract. 54's cell, then 56's, and no other of the file has a rule.
-- Assumes nothing.
use mathlib.Core.List.{map}
use native.Mathlib.Omega.{arith}
use Rattle.record.specs.declared.kind.Kind.TheVariants.{Nodo, Vertice}
use Rattle.record.specs.Files.{files_of, delivery_of}
use Rattle.fifties.proofs.FiftyTallies.{little, places-in, idle-in, nodes-in}
use Rattle.fifties.proofs.nodes.tally_nodes.Goals as goal

pub mark_nodes-requires : goal.mark_nodes-requires
mark_nodes-requires c = let p = c.requires in
    let f = rw p.0 at c.args.nodes.now.named in (
      rw c.file_of-tramo.ensures p.3,
      rw c.file_of-ob_pun.ensures p.4,
      rw c.file_of-vertice.ensures p.5,
      omega (arith, f.count, p.1 Nodo),
      p.2,
      rw c.file_of-vertice.ensures (p.1 Vertice),
      p.6,
      p.7,
      omega (arith, c.order-1.given, p.8),
      omega (arith, c.pairs-1.given, p.11),
      p.12,
      omega (arith, c.zs-1.given, p.9),
      p.13,
      omega (arith, c.mark_same_place.ensures.long, p.14),
      omega (arith, p.2),
    )

pub with_marks-idle-requires : goal.with_marks-idle-requires
with_marks-idle-requires c = let p = c.requires in
    let f = rw p.0 at c.args.nodes.now.named in
    let files = files_of (map (λ x. x.now) c.args.files) in
    let places = places-in files p.0 f.count c.no_tally.ensures c.mark_same_place.ensures c.with_marks-t.ensures in (
      little (delivery_of files) Nodo _ 5 f.small (omega arith) places,
      omega (arith, c.mark_nodes.ensures.marked.long, c.mark_same_place.ensures.long, f.count, p.1 Nodo, p.14),
      omega (arith, f.count, f.small),
    )

pub with_marks-requires : goal.with_marks-requires
with_marks-requires c = let p = c.requires in
    let f = rw p.0 at c.args.nodes.now.named in
    let files = files_of (map (λ x. x.now) c.args.files) in
    let places = places-in files p.0 f.count c.no_tally.ensures c.mark_same_place.ensures c.with_marks-t.ensures in
    let idle = idle-in files c.file_of-ob_pun.ensures c.file_of-tramo.ensures c.file_of-vertice.ensures p.0 f.count places c.mark_nodes.ensures.marked c.with_marks-idle.ensures in (
      little (delivery_of files) Nodo _ 7 f.small (omega arith) idle,
      omega (arith, c.mark_nodes.ensures.others.long, f.count, f.small),
      omega (arith, f.count, f.small),
    )

pub returns : goal.returns
returns c = let p = c.requires in
    let f = rw p.0 at c.args.nodes.now.named in
    let files = files_of (map (λ x. x.now) c.args.files) in
    let places = places-in files p.0 f.count c.no_tally.ensures c.mark_same_place.ensures c.with_marks-t.ensures in
    let idle = idle-in files c.file_of-ob_pun.ensures c.file_of-tramo.ensures c.file_of-vertice.ensures p.0 f.count places c.mark_nodes.ensures.marked c.with_marks-idle.ensures in
    nodes-in files c.file_of-ob_pun.ensures c.file_of-tramo.ensures c.file_of-vertice.ensures p.0 f.count idle c.mark_nodes.ensures.others c.with_marks.ensures
