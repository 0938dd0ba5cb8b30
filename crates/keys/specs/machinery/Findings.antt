-- Machinery: what is found and what is broken of the thirties and forties, as the code goes about it. No promise cites this file.
-- Assumes nothing.
use Rattle.std.specs.Prelude.{ℕ, Bool}
use Rattle.record.specs.declared.kind.Kind.{Kind}
use Rattle.record.specs.Breaks.{Finding}
use Rattle.record.specs.Files.{Delivery}
use Rattle.keys.specs.Rules.{key_tests, key_reasons}
use Rattle.keys.specs.machinery.Groups.{group_finding, broken_by, over_files}

-- the first break of the ten t, 3 or 4, in file k
unfoldable pub keys_in : ℕ → Delivery → Kind → Finding
keys_in t d k = group_finding (key_tests t d k) (key_reasons t d k) k (d k).count

-- and in the delivery
unfoldable pub keys_finding : ℕ → Delivery → Finding
keys_finding t d = over_files (keys_in t d)

-- the reason with document 01's number n, of the thirties or forties, is broken at record i, counted from 1, and field f of file k
unfoldable pub keys_broken : Delivery → Kind → ℕ → ℕ → ℕ → Bool
keys_broken d k n i f = broken_by (λ t. key_tests t d k) k (d k).count n i f
