-- Machinery: what is found and what is broken of the fifties, as the code goes about it. No promise cites this file.
-- Assumes nothing.
use Rattle.std.specs.Prelude.{ℕ, Bool, [], eqb}
use Rattle.laws.specs.Row.{pick}
use Rattle.record.specs.declared.kind.Kind.{Kind}
use Rattle.record.specs.Breaks.{Finding}
use Rattle.record.specs.Files.{Delivery}
use Rattle.keys.specs.machinery.Groups.{Tests, group_finding, broken_by, over_files}
use Rattle.topology.specs.Rules.{fifties, fifty_reasons}

-- the first break of the fifties in file k
unfoldable pub topology_in : Delivery → Kind → Finding
topology_in d k = group_finding (fifties d k) (fifty_reasons d k) k (d k).count

-- and in the delivery
unfoldable pub topology_finding : Delivery → Finding
topology_finding d = over_files (topology_in d)

-- the tests by the tens of the reason: only the fifties have any here
abbrev pub topology_tests : Delivery → Kind → ℕ → Tests
topology_tests d k t i f = pick (eqb t 5) (fifties d k i f) []

-- the reason with document 01's number n, of the fifties, is broken at record i, counted from 1, and field f of file k
unfoldable pub topology_broken : Delivery → Kind → ℕ → ℕ → ℕ → Bool
topology_broken d k n i f = broken_by (topology_tests d k) k (d k).count n i f
