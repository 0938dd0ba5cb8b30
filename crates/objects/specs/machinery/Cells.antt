-- Machinery: the tally of the seventies in each file. No promise cites this file.
-- Assumes nothing.
use Rattle.std.specs.Prelude.{List, map}
use Rattle.index.specs.declared.tally.Tally.{Tally}
use Rattle.record.specs.declared.kind.Kind.{Kind}
use Rattle.record.specs.Table.{kinds}
use Rattle.record.specs.Files.{Delivery}
use Rattle.keys.specs.machinery.Cells.{tally_in}
use Rattle.objects.specs.Rules.{seventies}

unfoldable pub seventy_tally : Delivery → Kind → Tally
seventy_tally d k = tally_in (seventies d k) k (d k).count

unfoldable pub seventy_tallies : Delivery → List Tally
seventy_tallies d = map (seventy_tally d) kinds
