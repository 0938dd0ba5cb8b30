-- What a finding of the fifties on a file means (record's specs/Claims.antt), and the break that it shows.
-- Assumes nothing.
use Prim.Native.Nat.{ℕ, ◌+◌}
use mathlib.Core.Bool.{false, not}
use mathlib.Core.Path.{◌≡◌, refl}
use lib.Dec.{eqb}
use lib.ListN.{get_or}
use borrow.Author.Tests.{eqb-true, not-false}
use Rattle.laws.specs.Find.{first_of, first_index, any}
use Rattle.laws.proofs.FindLaws.{any-no}
use Rattle.record.specs.declared.kind.Kind.{Kind}
use Rattle.record.specs.declared.reason.Reason.TheVariants.{LongFile10}
use Rattle.record.specs.declared.reason.Break.{Break}
use Rattle.std.specs.Prelude.{Err}
use Rattle.record.specs.Breaks.{number_of}
use Rattle.record.proofs.Claims.{MeansBy}
use Rattle.record.specs.Files.{Delivery}
use Rattle.keys.proofs.GroupMeaning.{Numbered, group-means}
use Rattle.keys.proofs.Shown.{ShownBy, group-shown}
use Rattle.topology.specs.Rules.{fifties, fifty_reasons}
use Rattle.fifties.specs.machinery.Findings.{topology_in, topology_tests, topology_broken}

-- each reason has its number
fifty-all : (d : Delivery) (k : Kind) (i f : ℕ) → any (λ u. not (eqb (number_of (get_or (fifty_reasons d k i f) u LongFile10)) (50 + u))) 10 ≡ false
unfolding fifty_reasons any first_index first_of
fifty-all d k i f = refl

fifty-numbered : (d : Delivery) (k : Kind) → Numbered 5 (topology_tests d k) (fifty_reasons d k) k (d k).count
unfolding fifties
fifty-numbered d k i f u l e = eqb-true _ _ (not-false _ (any-no _ 10 (fifty-all d k i f) l))

pub topology-means : (d : Delivery) (k : Kind) → MeansBy (topology_broken d k) 5 k (topology_in d k)
unfolding topology_in topology_broken
topology-means d k = group-means 5 (topology_tests d k) (fifty_reasons d k) k (d k).count (fifty-numbered d k)

pub topology-shown : (d : Delivery) (k : Kind) {b : Break} → topology_in d k ≡ Err b → ShownBy (fifty_reasons d k) k b
unfolding topology_in
topology-shown d k e = group-shown 5 (topology_tests d k) (fifty_reasons d k) k (d k).count (fifty-numbered d k) e
