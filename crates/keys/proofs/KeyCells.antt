-- The lists of tests and reasons of the thirties and forties, and the reasons as the code makes them.
-- Assumes nothing.
use Prim.Native.Nat.{ℕ, zero, suc, ◌+◌, ◌<◌, ◌≤◌}
use mathlib.Core.Bool.{false}
use mathlib.Core.List.{List, [], ◌∷◌}
use mathlib.Core.Option.{Option, none, some}
use mathlib.Core.Path.{◌≡◌, refl, sym, ap}
use native.Mathlib.Numerals.{add-one}
use native.Mathlib.Omega.{arith}
use lib.Dec.{eqb}
use lib.ListN.{get_or}
use borrow.Author.Tests.{eq-eqb, ne_eqb}
use Rattle.laws.specs.Find.{first_index}
use Rattle.laws.proofs.FindLaws.{index-some-at, index-here, index-end}
use Rattle.record.specs.declared.kind.Kind.{Kind}
use Rattle.record.specs.declared.kind.Kind.TheVariants.{Catalogo}
use Rattle.record.specs.declared.reason.Reason.TheVariants.{LongFile10, SameKey30, NoRecord40, OtherType41}
use Rattle.record.specs.Table.{target_of}
use Rattle.record.specs.Says.{table_of, letter_in}
use Rattle.record.specs.declared.kind.Target.TheVariants.{Free}
use Rattle.record.specs.Files.{Delivery, delivery_of}
use Rattle.record.specs.Names.{name_at, key_of}
use Rattle.keys.specs.Rules.{or_first, first_with, breaks40, breaks41, key_tests, key_reasons}
use Rattle.index.proofs.FoundLaws.{Passed, found-more}

-- THE LISTS of tests and reasons by the ten t and the digit u: away from 30, 40 and 41 the default stands
pub record Other (t u : ℕ) : Type 0 where
  pub not-30 : t ≡ 3 → u ≡ 0 → ⊥
  pub not-40 : t ≡ 4 → u ≡ 0 → ⊥
  pub not-41 : t ≡ 4 → u ≡ 1 → ⊥

pub other-3 : {t u : ℕ} → t ≡ 3 → (u ≡ 0 → ⊥) → Other t u
other-3 e h = record { not-30 = λ a b. h b; not-40 = λ a b. omega arith; not-41 = λ a b. omega arith }

pub other-4 : {t u : ℕ} → t ≡ 4 → (u ≡ 0 → ⊥) → (u ≡ 1 → ⊥) → Other t u
other-4 e h l = record { not-30 = λ a b. h b; not-40 = λ a b. h b; not-41 = λ a b. l b }

pub other-ten : {t u : ℕ} → (t ≡ 3 → ⊥) → (t ≡ 4 → ⊥) → Other t u
other-ten h l = record { not-30 = λ a b. h a; not-40 = λ a b. l a; not-41 = λ a b. l a }

pub other-default : {A : Type 0} (d x y z : A) (t u : ℕ) → Other t u → d ≡ get_or (get_or ([] ∷ [] ∷ [] ∷ (x ∷ []) ∷ (y ∷ z ∷ []) ∷ []) t []) u d
other-default d x y z zero u o = refl
other-default d x y z (suc zero) u o = refl
other-default d x y z (suc (suc zero)) u o = refl
other-default d x y z (suc (suc (suc zero))) zero o = absurd (o.not-30 refl refl)
other-default d x y z (suc (suc (suc zero))) (suc u) o = refl
other-default d x y z (suc (suc (suc (suc zero)))) zero o = absurd (o.not-40 refl refl)
other-default d x y z (suc (suc (suc (suc zero)))) (suc zero) o = absurd (o.not-41 refl refl)
other-default d x y z (suc (suc (suc (suc zero)))) (suc (suc u)) o = refl
other-default d x y z (suc (suc (suc (suc (suc t))))) u o = refl

-- a field that is no reference breaks nothing of the forties
pub free-tests : (d : Delivery) (k : Kind) (i f u : ℕ) → target_of k f ≡ Free → get_or (key_tests 4 d k i f) u false ≡ false
unfolding key_tests breaks40 breaks41
free-tests d k i f zero e = rw e
free-tests d k i f (suc zero) e = rw e
free-tests d k i f (suc (suc u)) e = refl

module _ (files : Kind → List ℕ) (k : Kind) (f : ℕ) {t u : ℕ} where
  module _ (i : ℕ) where
    pub reason-40 : t ≡ 4 → u ≡ 0 → NoRecord40 ≡ get_or (key_reasons t (delivery_of files) k i f) u LongFile10
    unfolding key_reasons
    reason-40 e h = rw (e, h)

    pub reason-other : Other t u → LongFile10 ≡ get_or (key_reasons t (delivery_of files) k i f) u LongFile10
    unfolding key_reasons
    reason-other o = other-default LongFile10 _ _ _ t u o

    module _ {own : List ℕ} (w : own ≡ files k) where
      pub reason-30 : {x j : ℕ} → t ≡ 3 → u ≡ 0 → x ≡ key_of k (table_of own k) i → j ≡ first_with (key_of k (table_of own k)) i x
          → SameKey30 (j + 1) ≡ get_or (key_reasons t (delivery_of files) k i f) u LongFile10
      unfolding key_reasons
      reason-30 e h q v = rw (e, h, v, q, w, add-one)

      pub reason-41 : {x j m z : ℕ} {codes : List ℕ} → t ≡ 4 → u ≡ 1 → codes ≡ files Catalogo → m ≡ (table_of codes Catalogo).count
          → x ≡ name_at k (table_of own k) i f → j ≡ first_with (key_of Catalogo (table_of codes Catalogo)) m x → z ≡ letter_in ((table_of codes Catalogo).says j 2)
          → OtherType41 z ≡ get_or (key_reasons t (delivery_of files) k i f) u LongFile10
      unfolding key_reasons key_of
      reason-41 e h c p q v y = rw (e, h, y, v, p, q, w, c)

-- THE FIRST OF A NAME: a loop that looks for it has the invariant `Passed`
module _ (key : ℕ → ℕ) (n x : ℕ) where
  pub named_here : {j : ℕ} → Passed (λ i. eqb (key i) x) n j → j < n → key j ≡ x → j ≡ first_with key n x
  named_here s l e = ap or_first (sym (index-here _ n s.past l (eq-eqb _ _ e)))

  pub named_more : {j : ℕ} → Passed (λ i. eqb (key i) x) n j → j < n → (key j ≡ x → ⊥) → Passed (λ i. eqb (key i) x) n (j + 1)
  named_more s l e = found-more s l (ne_eqb _ _ e)

  pub named_end : {j : ℕ} → Passed (λ i. eqb (key i) x) n j → n ≤ j → 0 ≡ first_with key n x
  named_end s u = ap or_first (sym (index-end _ n refl s.under u s.past))

  pub named-under : first_with key n x ≤ n
  named-under = go (first_index (λ i. eqb (key i) x) n) refl
    where
      go : (o : Option ℕ) → first_index (λ i. eqb (key i) x) n ≡ o → or_first o ≤ n
      go none e = omega arith
      go (some j) e = omega (arith, (index-some-at (λ i. eqb (key i) x) n e).0)
