-- What a finding of the seventies on a file means (record's specs/Claims.antt), and the break that it shows.
-- Assumes nothing.
use Prim.Native.Nat.{zero, suc}
use mathlib.Core.Path.{◌≡◌, refl, sym}
use Rattle.laws.proofs.FindLaws.{true-false}
use Rattle.record.specs.declared.kind.Kind.{Kind}
use Rattle.record.specs.declared.reason.Break.{Break}
use Rattle.std.specs.Prelude.{Err}
use Rattle.record.proofs.Claims.{MeansBy}
use Rattle.record.specs.Files.{Delivery}
use Rattle.keys.proofs.GroupMeaning.{Numbered, group-means}
use Rattle.keys.proofs.Shown.{ShownBy, group-shown}
use Rattle.objects.specs.Rules.{seventies, seventy_reasons}
use Rattle.objects.specs.machinery.Findings.{objects_in, objects_tests, objects_broken}

-- each reason has its number
seventy-numbered : (d : Delivery) (k : Kind) → Numbered 7 (objects_tests d k) (λ i f. seventy_reasons) k (d k).count
unfolding seventies
seventy-numbered d k i f zero l e = refl
seventy-numbered d k i f (suc u) l e = absurd (true-false (sym e))

pub objects-means : (d : Delivery) (k : Kind) → MeansBy (objects_broken d k) 7 k (objects_in d k)
unfolding objects_in objects_broken
objects-means d k = group-means 7 (objects_tests d k) (λ i f. seventy_reasons) k (d k).count (seventy-numbered d k)

pub objects-shown : (d : Delivery) (k : Kind) {b : Break} → objects_in d k ≡ Err b → ShownBy (λ i f. seventy_reasons) k b
unfolding objects_in
objects-shown d k e = group-shown 7 (objects_tests d k) (λ i f. seventy_reasons) k (d k).count (seventy-numbered d k) e
