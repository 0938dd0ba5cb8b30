-- Machinery: what is found and what is broken of the seventies, as the code goes about it. No promise cites this file.
-- Assumes nothing.
use Rattle.std.specs.Prelude.{ℕ, Bool, [], eqb}
use Rattle.laws.specs.Row.{pick}
use Rattle.record.specs.declared.kind.Kind.{Kind}
use Rattle.record.specs.Breaks.{Finding}
use Rattle.record.specs.Files.{Delivery}
use Rattle.keys.specs.machinery.Groups.{Tests, group_finding, broken_by, over_files}
use Rattle.objects.specs.Rules.{seventies, seventy_reasons}

-- the first break of the seventies in file k
unfoldable pub objects_in : Delivery → Kind → Finding
objects_in d k = group_finding (seventies d k) (λ i f. seventy_reasons) k (d k).count

-- and in the delivery
unfoldable pub objects_finding : Delivery → Finding
objects_finding d = over_files (objects_in d)

-- the tests by the tens of the reason: only the seventies have any here
abbrev pub objects_tests : Delivery → Kind → ℕ → Tests
objects_tests d k t i f = pick (eqb t 7) (seventies d k i f) []

-- the reason with document 02's number n, of the seventies, is broken at record i, counted from 1, and field f of file k
unfoldable pub objects_broken : Delivery → Kind → ℕ → ℕ → ℕ → Bool
objects_broken d k n i f = broken_by (objects_tests d k) k (d k).count n i f
