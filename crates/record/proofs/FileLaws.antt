-- A list of files as the code has it, slices, and as definitions have it, their bytes: what stands at a place, and past the end. Files of
-- a few records.
-- Assumes nothing.
use Prim.Native.Nat.{ℕ, zero, suc, ◌+◌, ◌<◌, ◌≤◌}
use mathlib.Core.Bool.{true}
use mathlib.Core.List.{List, [], ◌∷◌, map}
use mathlib.Core.Path.{◌≡◌, refl, sym, subst}
use native.Mathlib.Omega.{arith}
use lib.ListN.{length, get_or}
use lib.Dec.{leb}
use borrow.Author.Count.{below_more}
use borrow.Author.Tests.{leb-true}
use Rattle.record.specs.declared.kind.Kind.{Kind}
use Rattle.std.specs.Prelude.{None, Some}
use Rattle.record.specs.Says.{table_of}
use Rattle.record.specs.Table.{Which}
use Rattle.record.specs.Table.{file_of, file_count, which_of}
use Rattle.record.specs.Files.{Files, Delivery, delivery_of}
use Rattle.record.specs.machinery.Columns.{Few, AllFew}
use Rattle.record.proofs.TableLaws.{sane, which-file}

pub inside : {A B : Type 0} (f : A → B) (l : List A) (i : ℕ) (d : A) (e : B) → i < length l → f (get_or l i d) ≡ get_or (map f l) i e
inside f [] i d e h = absurd (omega arith)
inside f (x ∷ xs) zero d e h = refl
inside f (x ∷ xs) (suc i) d e h = inside f xs i d e (omega arith)

pub past : {A B : Type 0} (f : A → B) (l : List A) (i : ℕ) (e : B) → length l ≤ i → e ≡ get_or (map f l) i e
past f [] i e h = refl
past f (x ∷ xs) zero e h = absurd (omega arith)
past f (x ∷ xs) (suc i) e h = past f xs i e (omega arith)

-- A FEW RECORDS: a loop over the files' numbers, of which those before n have no more
pub record FewBefore (d : Delivery) (n : ℕ) : Type 0 where
  pub within : n ≤ file_count + 1
  pub each : (m : ℕ) → m < n → Few d (which_of m)

pub few-start : (d : Delivery) → FewBefore d 0
few-start d = record { within = omega arith; each = λ m l. absurd (omega arith) }

pub few-more : {d : Delivery} {n : ℕ} {w : Which} → FewBefore d n → n < file_count + 1 → w ≡ which_of n → Few d w → FewBefore d (n + 1)
few-more {d} {n} s l e h =
    record {
      within = omega arith;
      each = below_more (λ (m : ℕ). Few d (which_of m)) n s.each (subst (λ (w : Which). Few d w) e h);
    }

pub few-end : {d : Delivery} {n : ℕ} → FewBefore d n → file_count < n → AllFew d
few-end {d} s l = record { each = λ k. subst (λ (w : Which). Few d w) (which-file k) (s.each (file_of k) (omega (arith, sane k))) }

-- of one file, by its number's kind
pub few-none : (d : Delivery) {w : Which} → w ≡ None → Few d w
few-none d e = subst (λ (w : Which). Few d w) (sym e) tt

pub few-file :
    (files : Files) {w : Which} {k : Kind} {own : List ℕ} {n : ℕ} → w ≡ Some k → own ≡ files k → n ≡ (table_of own k).count → leb n 512 ≡ true
    → Few (delivery_of files) w
few-file files {w} {k} {own} {n} e q h l = subst (λ (w : Which). Few (delivery_of files) w) (sym e) (rw (← q, ← h) (leb-true n 512 l))
