-- The seventies tell the same of two deliveries that agree (keys' proofs/Agree.antt): of a delivery and of it struck both sides compute to
-- the same.
-- Assumes nothing.
use Prim.Native.Nat.{ℕ}
use mathlib.Core.Path.{◌≡◌, refl, sym, ap, ◌∙◌}
use Rattle.record.specs.declared.kind.Kind.{Kind}
use Rattle.record.specs.Table.{col_at, is_free_word}
use Rattle.record.specs.Files.{Delivery}
use Rattle.record.specs.Names.{name_at}
use Rattle.keys.specs.machinery.Groups.{Tests, group_finding, broken_by, over_files}
use Rattle.keys.proofs.Agree.{Agrees, struck, struck-same}
use Rattle.objects.specs.Rules.{named_by, composite_idle, breaks70, seventies, seventy_reasons}
use Rattle.objects.specs.machinery.Findings.{objects_in, objects_finding, objects_broken}

seventies-struck : (d : Delivery) → seventies (struck d) ≡ seventies d
unfolding col_at is_free_word name_at named_by composite_idle breaks70 seventies
seventies-struck d = refl

finding-struck : (d : Delivery) → objects_finding (struck d) ≡ objects_finding d
unfolding objects_finding objects_in
finding-struck d = ap (λ (ts : Kind → Tests). over_files (λ k. group_finding (ts k) (λ i f. seventy_reasons) k (d k).count)) (seventies-struck d)

broken-struck : (d : Delivery) (k : Kind) (n i f : ℕ) → objects_broken (struck d) k n i f ≡ objects_broken d k n i f
unfolding objects_broken broken_by
broken-struck d k n i f = rw (seventies-struck d)

module _ {d e : Delivery} (a : Agrees d e) where
  pub objects-agree : objects_finding d ≡ objects_finding e
  objects-agree = sym (finding-struck d) ∙ ap objects_finding (struck-same a) ∙ finding-struck e

  pub objects-broken-agree : (k : Kind) (n i f : ℕ) → objects_broken d k n i f ≡ objects_broken e k n i f
  objects-broken-agree k n i f = sym (broken-struck d k n i f) ∙ ap (λ (x : Delivery). objects_broken x k n i f) (struck-same a) ∙ broken-struck e k n i f
