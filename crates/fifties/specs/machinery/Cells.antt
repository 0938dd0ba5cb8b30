-- Machinery: the tally of the fifties in each file. No promise cites this file.
-- Assumes nothing.
use Rattle.std.specs.Prelude.{List, map}
use Rattle.index.specs.declared.tally.Tally.{Tally}
use Rattle.record.specs.declared.kind.Kind.{Kind}
use Rattle.record.specs.Table.{kinds}
use Rattle.record.specs.Files.{Delivery}
use Rattle.keys.specs.machinery.Cells.{tally_in}
use Rattle.topology.specs.Rules.{fifties}

unfoldable pub fifty_tally : Delivery → Kind → Tally
fifty_tally d k = tally_in (fifties d k) k (d k).count

unfoldable pub fifty_tallies : Delivery → List Tally
fifty_tallies d = map (fifty_tally d) kinds
