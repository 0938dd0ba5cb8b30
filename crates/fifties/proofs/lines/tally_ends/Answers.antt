-- `fifties::lines::tally_ends` meets its contract. 59's cell, then 52's and 53's, and no other of the file has a rule.
-- Assumes nothing.
use mathlib.Core.List.{map}
use native.Mathlib.Nat.{min-le_left}
use native.Mathlib.Omega.{arith}
use Rattle.record.specs.declared.kind.Kind.TheVariants.{Tramo}
use Rattle.record.specs.Files.{files_of, delivery_of}
use Rattle.topology.specs.Rules.{ends_tramo}
use Rattle.topology.proofs.UsedLaws.{used-filled, used-then}
use Rattle.fifties.proofs.FiftyTallies.{little, endless-in, starts-in, tramos-in}
use Rattle.fifties.proofs.lines.tally_ends.Goals as goal

pub with_marks-started-requires : goal.with_marks-started-requires
with_marks-started-requires c = let p = c.requires in
    let files = files_of (map (λ x. x.now) c.args.files) in
    let k = rw p.0 at c.args.vertices.now.keyed in (
      little (delivery_of files) Tramo _ 50 (min-le_left _ _) (omega arith)
          (endless-in files k p.2 c.no_tally.ensures c.mark_endless.ensures c.with_marks-endless.ensures),
      omega (arith, c.mark_apart.ensures.marked.long, c.mark_endless.ensures.long, p.5),
      omega (arith, p.2.count, p.2.small),
    )

pub with_marks-requires : goal.with_marks-requires
with_marks-requires c = let p = c.requires in
    let files = files_of (map (λ x. x.now) c.args.files) in
    let k = rw p.0 at c.args.vertices.now.keyed in
    let endless = endless-in files k p.2 c.no_tally.ensures c.mark_endless.ensures c.with_marks-endless.ensures in (
      little (delivery_of files) Tramo _ 63 (min-le_left _ _) (omega arith)
          (starts-in files k p.2 p.0 p.1 p.3 endless c.mark_apart.ensures.marked c.with_marks-started.ensures),
      omega (arith, c.mark_apart-2.ensures.marked.long, c.mark_apart.ensures.marked.long, c.mark_endless.ensures.long, p.5),
      omega (arith, p.2.count, p.2.small),
    )

pub returns : goal.returns
unfolding ends_tramo
returns c = let p = c.requires in
    let files = files_of (map (λ x. x.now) c.args.files) in
    let k = rw p.0 at c.args.vertices.now.keyed in
    let endless = endless-in files k p.2 c.no_tally.ensures c.mark_endless.ensures c.with_marks-endless.ensures in
    let starts = starts-in files k p.2 p.0 p.1 p.3 endless c.mark_apart.ensures.marked c.with_marks-started.ensures in record { value = tramos-in files k p.2 p.0 p.1 p.4 starts c.mark_apart-2.ensures.marked c.with_marks.ensures; held = used-then (used-filled p.3 c.mark_apart.ensures.held) (used-filled p.4 c.mark_apart-2.ensures.held) }
