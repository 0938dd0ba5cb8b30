-- A program need not read a file further than one byte past what it takes: what it prints (specs/Line.antt) stays.
-- Assumes nothing.
use Prim.Native.Nat.{ℕ, zero, suc, ◌+◌}
use mathlib.Core.Bool.{Bool, true, false}
use mathlib.Core.List.{List}
use mathlib.Core.Option.{Option, none, some}
use mathlib.Core.Path.{◌≡◌, refl, sym, ap, fun_ext, ◌∙◌}
use native.Mathlib.Nat.{le_refl}
use native.Mathlib.Omega.{arith}
use lib.Dec.{ltb}
use lib.ListN.{length, take}
use lib.Seq.{length-take-le, take_all}
use borrow.Author.Tests.{ltb-true, ltb-false, lt-ltb}
use Rattle.laws.specs.Find.{first_index}
use Rattle.laws.proofs.FindLaws.{true-false, index_same, index-none-at, index-some-at}
use Rattle.record.specs.declared.kind.Kind.{Kind}
use Rattle.record.specs.Table.{Which}
use Rattle.std.specs.Prelude.{None, Some}
use Rattle.record.specs.Table.{which_of, file_count}
use Rattle.record.specs.Files.{Files}
use Rattle.record.proofs.TableLaws.{sane, which-file}
use Rattle.keys.specs.Rules.{or_first}
use Rattle.judge.specs.Line.{big, is_big, big_of, or_big}
use Rattle.judge.proofs.LineLaws.{big_at, some-big}

-- the first n + 1 bytes pass n exactly if all do
passes_same : (n : ℕ) (s : List ℕ) → ltb n (length (take (suc n) s)) ≡ ltb n (length s)
passes_same n s = go (ltb n (length s)) refl
  where
    go : (t : Bool) → ltb n (length s) ≡ t → ltb n (length (take (suc n) s)) ≡ t
    go true e = rw (length-take-le (suc n) s (ltb-true n (length s) e)) (lt-ltb n (suc n) (le_refl _))
    go false e = rw (take_all (suc n) s (omega (arith, ltb-false n (length s) e))) e

module _ (files cut : Files) (h : (k : Kind) → cut k ≡ take (big + 1) (files k)) where
  big-same : (w : Which) → is_big cut w ≡ is_big files w
  big-same None = refl
  big-same (Some k) = ap (λ (s : List ℕ). ltb big (length s)) (h k) ∙ passes_same big (files k)

  first-big-same : big_of cut ≡ big_of files
  unfolding big_of
  first-big-same = ap or_first (index_same _ _ (file_count + 1) (λ n l. big-same (which_of n)))

  -- where no file is big, nothing is cut;
  none-cut : first_index (big_at files) (file_count + 1) ≡ none → cut ≡ files
  unfolding big_at
  none-cut e =
      fun_ext (λ k.
      let small = sym (ap (is_big files) (which-file k)) ∙ index-none-at (big_at files) (file_count + 1) e (omega (arith, sane k)) in
      h k ∙ take_all (big + 1) (files k) (omega (arith, ltb-false big (length (files k)) small)))

  -- where one is, the line is its number
  first-is : (n : ℕ) → first_index (big_at files) (file_count + 1) ≡ some n → (big_of files ≡ n) × (n ≡ 0 → ⊥)
  unfolding big_of big_at which_of
  first-is zero e = absurd (true-false (sym (index-some-at (big_at files) (file_count + 1) e).1))
  first-is (suc n) e = (ap or_first e, λ z. omega arith)

  pub cut_short : (text : Files → List ℕ) → or_big text cut ≡ or_big text files
  cut_short text = go (first_index (big_at files) (file_count + 1)) refl
    where
      go : (o : Option ℕ) → first_index (big_at files) (file_count + 1) ≡ o → or_big text cut ≡ or_big text files
      go none e = ap (or_big text) (none-cut e)
      go (some n) e =
          let b = first-is n e in
          sym (some-big text cut (sym (first-big-same ∙ b.0)) b.1 refl) ∙ some-big text files (sym b.0) b.1 refl
