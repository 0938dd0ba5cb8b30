-- No test from 30 on holds of what files say (specs/Broken.antt, said_holds) exactly where the crates of keys, topology and objects have nothing broken.
-- Assumes nothing.
use Prim.Native.Nat.{ℕ, zero, suc, ◌-◌, ◌/◌, ◌%◌}
use mathlib.Core.Bool.{Bool, true, false, ◌&&◌}
use mathlib.Core.List.{List, []}
use mathlib.Core.Path.{◌≡◌, refl, sym, ap, ◌∙◌}
use lib.Dec.{eqb}
use lib.ListN.{get_or}
use borrow.Author.Tests.{eqb-true}
use Rattle.laws.specs.Row.{pick}
use Rattle.record.specs.declared.kind.Kind.{Kind}
use Rattle.record.specs.Files.{Delivery}
use Rattle.keys.specs.machinery.Groups.{Tests, broken_by}
use Rattle.keys.specs.Rules.{key_tests}
use Rattle.keys.specs.machinery.Findings.{keys_broken}
use Rattle.topology.specs.Rules.{fifties}
use Rattle.fifties.specs.machinery.Findings.{topology_broken}
use Rattle.objects.specs.Rules.{seventies}
use Rattle.objects.specs.machinery.Findings.{objects_broken}
use Rattle.judge.specs.Broken.{is_there, said_tests, said_holds}

pub under-pick : (b : Bool) (xs : List Bool) (u : ℕ) → get_or (pick b xs []) u false ≡ (b && get_or xs u false)
under-pick true xs u = refl
under-pick false xs u = refl

pub and_none : (b : Bool) → (b && false) ≡ false
and_none true = refl
and_none false = refl

module _ (d : Delivery) (n : ℕ) (k : Kind) (i f : ℕ) where
  keys_in_lem : (t : ℕ) → n / 10 ≡ t → get_or (said_tests d t k i f) (n % 10) false ≡ false → keys_broken d k n i f ≡ false
  unfolding said_tests keys_broken broken_by key_tests
  keys_in_lem zero e h = rw e (and_none (is_there (d k).count k i f))
  keys_in_lem (suc zero) e h = rw e (and_none (is_there (d k).count k i f))
  keys_in_lem (suc (suc zero)) e h = rw e (and_none (is_there (d k).count k i f))
  keys_in_lem (suc (suc (suc zero))) e h = rw e (rw under-pick at h)
  keys_in_lem (suc (suc (suc (suc zero)))) e h = rw e (rw under-pick at h)
  keys_in_lem (suc (suc (suc (suc (suc t))))) e h = rw e (and_none (is_there (d k).count k i f))

  -- a group whose tests are all of one ten
  ten-in :
      (t : ℕ) (tests : Tests) → said_tests d t k i f ≡ pick (is_there (d k).count k i f) (tests (i - 1) f) [] → said_holds d n k i f ≡ false
      → broken_by (λ s i f. pick (eqb s t) (tests i f) []) k (d k).count n i f ≡ false
  unfolding said_holds broken_by
  ten-in t tests e h = go (eqb (n / 10) t) refl
    where
      go : (b : Bool) → eqb (n / 10) t ≡ b → (is_there (d k).count k i f && get_or (pick b (tests (i - 1) f) []) (n % 10) false) ≡ false
      go true q =
          sym (under-pick (is_there (d k).count k i f) (tests (i - 1) f) (n % 10))
          ∙ ap (λ (ts : List Bool). get_or ts (n % 10) false) (sym e)
          ∙ ap (λ (s : ℕ). get_or (said_tests d s k i f) (n % 10) false) (sym (eqb-true (n / 10) t q))
          ∙ h
      go false q = and_none (is_there (d k).count k i f)

  said_in_lem :
      (t : ℕ) → n / 10 ≡ t → keys_broken d k n i f ≡ false → topology_broken d k n i f ≡ false → objects_broken d k n i f ≡ false
      → get_or (said_tests d t k i f) (n % 10) false ≡ false
  unfolding said_tests keys_broken topology_broken objects_broken broken_by key_tests
  said_in_lem zero e a b c = rw under-pick (and_none (is_there (d k).count k i f))
  said_in_lem (suc zero) e a b c = rw under-pick (and_none (is_there (d k).count k i f))
  said_in_lem (suc (suc zero)) e a b c = rw under-pick (and_none (is_there (d k).count k i f))
  said_in_lem (suc (suc (suc zero))) e a b c = rw under-pick (rw e at a)
  said_in_lem (suc (suc (suc (suc zero)))) e a b c = rw under-pick (rw e at a)
  said_in_lem (suc (suc (suc (suc (suc zero))))) e a b c = rw under-pick (rw e at b)
  said_in_lem (suc (suc (suc (suc (suc (suc zero)))))) e a b c = rw under-pick (and_none (is_there (d k).count k i f))
  said_in_lem (suc (suc (suc (suc (suc (suc (suc zero))))))) e a b c = rw under-pick (rw e at c)
  said_in_lem (suc (suc (suc (suc (suc (suc (suc (suc t)))))))) e a b c = rw under-pick (and_none (is_there (d k).count k i f))

  pub said-keys : said_holds d n k i f ≡ false → keys_broken d k n i f ≡ false
  unfolding said_holds
  said-keys = keys_in_lem (n / 10) refl

  pub said-topology : said_holds d n k i f ≡ false → topology_broken d k n i f ≡ false
  unfolding said_tests topology_broken
  said-topology = ten-in 5 (fifties d k) refl

  pub said-objects : said_holds d n k i f ≡ false → objects_broken d k n i f ≡ false
  unfolding said_tests objects_broken
  said-objects = ten-in 7 (seventies d k) refl

  pub all_said : keys_broken d k n i f ≡ false → topology_broken d k n i f ≡ false → objects_broken d k n i f ≡ false → said_holds d n k i f ≡ false
  unfolding said_holds
  all_said = said_in_lem (n / 10) refl
