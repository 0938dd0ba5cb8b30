-- Where nothing is broken, nothing is found: in a group of reasons of a file, in a file's fields, over the files.
-- Assumes nothing.
use Prim.Native.Nat.{ℕ, ◌+◌, ◌-◌, ◌*◌, ◌/◌, ◌%◌, ◌<◌, ◌≤◌}
use mathlib.Core.Bool.{false}
use mathlib.Core.List.{List}
use mathlib.Core.Option.{Option, none, some}
use mathlib.Core.Path.{◌≡◌, refl, sym, ap, ◌∙◌}
use native.Mathlib.Nat.{mod-lt, div-lt_iff_lt-mul}
use native.Mathlib.Omega.{arith}
use lib.Dec.{leb}
use lib.ListN.{get_or}
use borrow.Author.Tests.{leb-true, le-leb}
use Rattle.laws.proofs.FindLaws.{first-none}
use Rattle.laws.proofs.RowLaws.{and-true, true-and, then-false, and_last}
use Rattle.record.specs.declared.kind.Kind.{Kind}
use Rattle.record.specs.Table.{Which}
use Rattle.std.specs.Prelude.{None, Some}
use Rattle.record.specs.declared.reason.Break.{Break}
use Rattle.record.specs.Breaks.{Finding}
use Rattle.std.specs.Prelude.{Ok}
use Rattle.record.specs.Table.{fields_of, which_of, file_count}
use Rattle.record.specs.Cut.{count_of, record_of}
use Rattle.record.specs.Breaks.{finding_of, record_finding, fields_finding}
use Rattle.record.proofs.FindingLaws.{in_file, fields-is, record-turn}
use Rattle.keys.specs.machinery.Groups.{Tests, Reasons, cell_break, cells_of, group_finding, broken_by, break_in, at_file, over_files}

-- OF A FILE'S FIELDS: each record is lawful
finding-none : (o : Option Break) → finding_of o ≡ Ok tt → o ≡ none
finding-none none e = refl
finding-none (some b) e = let z : ◌≡◌ {A = ℕ} 0 1 = cc in absurd (omega arith)

pub fields-fine : (s : List ℕ) (k : Kind) → ((i : ℕ) → i < count_of s k → record_finding (record_of s k i) k (i + 1) ≡ Ok tt) → fields_finding s k ≡ Ok tt
fields-fine s k h =
    fields-is s k ∙ ap finding_of (first-none (in_file s k) (count_of s k) (λ i l. finding-none (in_file s k i) (sym (record-turn s k i) ∙ h i l)))

-- OVER THE FILES: each is fine
pub over-fine : (g : Kind → Finding) → ((k : Kind) → g k ≡ Ok tt) → over_files g ≡ Ok tt
unfolding over_files
over-fine g h = ap finding_of (first-none _ (file_count + 1) (λ n l. go (which_of n)))
  where
    go : (w : Which) → break_in (at_file g w) ≡ none
    go None = refl
    go (Some k) = ap break_in (h k)

-- OF A GROUP: no reason's number is broken where no test of the records and the fields holds, and only there
module _ (tests : ℕ → Tests) (k : Kind) (m : ℕ) where
  abbrev pub NoneBroken : Type 0
  NoneBroken = (n i f : ℕ) → broken_by tests k m n i f ≡ false

  abbrev pub NoTest : Type 0
  NoTest = (t i f u : ℕ) → i < m → f ≤ fields_of k → u < 10 → get_or (tests t i f) u false ≡ false

  pub none-tests : NoneBroken → NoTest
  unfolding broken_by
  none-tests h t i f u l b s =
      let e : (u + t * 10) / 10 ≡ t = omega arith in
      let r : (u + t * 10) % 10 ≡ u = omega arith in
      let q : i + 1 - 1 ≡ i = omega arith in
      rw (e, r, q) at
      (then-false _ _ (h (u + t * 10) (i + 1) f)
      (true-and _ _ (true-and _ _ (le-leb 1 (i + 1) (omega arith)) (le-leb (i + 1) m (omega arith))) (le-leb f (fields_of k) b)))

  pub tests-none : NoTest → NoneBroken
  unfolding broken_by
  tests-none h n i f =
      and_last _ _
      (λ e.
      let w = and-true _ (leb f (fields_of k)) e in
      let v = and-true (leb 1 i) (leb i m) w.0 in
      let a = leb-true 1 i v.0 in
      let b = leb-true i m v.1 in
      h (n / 10) (i - 1) f (n % 10) (omega arith) (leb-true f (fields_of k) w.1) (mod-lt n (omega arith)))

  pub none-broken-fine : NoneBroken → (reasons : Reasons) (t : ℕ) → group_finding (tests t) reasons k m ≡ Ok tt
  unfolding group_finding cell_break
  none-broken-fine h reasons t =
      ap finding_of
      (first-none _ m
      (λ i l. first-none _ (cells_of k)
      (λ c b.
      let f : c / 10 < fields_of k + 1 = (div-lt_iff_lt-mul (omega arith)).1 b in
      rw (none-tests h t i (c / 10) (c % 10) l (omega arith) (mod-lt c (omega arith))))))
