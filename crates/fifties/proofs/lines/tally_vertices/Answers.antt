-- `fifties::lines::tally_vertices` meets its contract: 50's cell, then 51's, and no other of the file has a rule.
-- Assumes nothing.
use mathlib.Core.List.{map}
use Rattle.record.specs.declared.kind.Kind.TheVariants.{Vertice}
use Rattle.record.specs.Files.{files_of, delivery_of}
use native.Mathlib.Omega.{arith}
use Rattle.topology.proofs.OrderRules.{marks-lent, gap-lent, alone-lent}
use Rattle.fifties.proofs.FiftyTallies.{little, gaps-tally, vertices-tally}
use Rattle.fifties.proofs.lines.tally_vertices.Goals as goal

pub with_marks-requires : goal.with_marks-requires
with_marks-requires c = (little (delivery_of (files_of (map (λ x. x.now) c.args.files))) Vertice _ 21 c.requires.0.small (omega arith) (gaps-tally (delivery_of (files_of (map (λ x. x.now) c.args.files))) c.requires.0.count c.no_tally.ensures (marks-lent c.requires.0 _ _ c.mark_gaps.ensures (gap-lent c.requires.0)) c.with_marks-t.ensures), omega (arith, c.mark_alone.ensures.long, c.mark_gaps.ensures.long, c.requires.1), c.args.keys.now.ready.small)

pub returns : goal.returns
returns c = vertices-tally _ c.requires.0.count (gaps-tally _ c.requires.0.count c.no_tally.ensures (marks-lent c.requires.0 _ _ c.mark_gaps.ensures (gap-lent c.requires.0)) c.with_marks-t.ensures) (marks-lent c.requires.0 _ _ c.mark_alone.ensures (alone-lent c.requires.0)) c.with_marks.ensures
