-- Deliveries that agree: as many records, and the same said at every field but the free words. The rules of keys and references
-- tell the same of both.
-- Assumes nothing.
use Prim.Native.Nat.{ℕ, zero, suc, ◌+◌, ◌-◌, ◌/◌, ◌%◌, ◌≤◌, ◌<◌}
use mathlib.Core.Bool.{Bool, true, false, not, ◌&&◌}
use mathlib.Core.List.{List, [], ◌∷◌}
use mathlib.Core.Option.{some}
use mathlib.Core.Path.{◌≡◌, refl, sym, ap, ap₂, fun_ext, ◌∙◌}
use native.Mathlib.Decide.{dec_lt}
use native.Mathlib.Omega.{arith}
use lib.Dec.{leb, eqb}
use lib.ListN.{get_or}
use borrow.Author.Tests.{leb-true, not-true}
use Rattle.laws.specs.Find.{hit}
use Rattle.laws.specs.Row.{pick, row, each}
use Rattle.laws.proofs.FindLaws.{true-false, first-same}
use Rattle.laws.proofs.RowLaws.{and-true}
use Rattle.record.specs.declared.kind.Kind.{Kind}
use Rattle.record.specs.declared.kind.Kind.TheVariants.{Catalogo}
use Rattle.record.specs.declared.kind.Target.{Target}
use Rattle.record.specs.declared.kind.Target.TheVariants.{Free, Nowhere, To}
use Rattle.record.specs.declared.reason.Reason.{Reason}
use Rattle.record.specs.declared.reason.Reason.TheVariants.{LongFile10, SameKey30, OtherType41}
use Rattle.record.specs.Table.{Col, col_at, fields_of, keys_of, target_of, letter_of, is_free_word}
use Rattle.record.specs.Breaks.{break_of, finding_of}
use Rattle.record.specs.Says.{Said, missing, letter_in}
use Rattle.record.proofs.TableLaws.{every, everywhere, every-place, past}
use Rattle.record.specs.Files.{Delivery}
use Rattle.record.specs.Names.{name_at, key_of}
use Rattle.keys.specs.Rules.{first_with, repeats, breaks30, dangles, dangles_to, breaks40, typed_in, mistyped, refers_to_catalogue, breaks41, key_tests, key_reasons}
use Rattle.keys.specs.machinery.Findings.{keys_in, keys_finding, keys_broken}
use Rattle.keys.specs.machinery.Groups.{cell_break, cells_of, group_finding, broken_by, over_files}

pub record Agrees (d e : Delivery) : Type 0 where
  pub count : (k : Kind) → (d k).count ≡ (e k).count
  pub says : (k : Kind) (i f : ℕ) → f ≤ fields_of k → is_free_word k f ≡ false → (d k).says i f ≡ (e k).says i f

-- STRUCK: a delivery without what no rule reads. Two that agree are the same, struck; so it is shown of each rule that it tells of a
-- delivery what it tells of it struck, and for rules of given files and fields both sides compute to the same
abbrev pub is_read : Kind → ℕ → Bool
is_read k f = leb f (fields_of k) && not (is_free_word k f)

abbrev pub struck : Delivery → Delivery
struck d k = record { count = (d k).count; says = λ i f. pick (is_read k f) ((d k).says i f) missing }

pub struck-same : {d e : Delivery} → Agrees d e → struck d ≡ struck e
struck-same {d} {e} a =
    fun_ext (λ k. ap₂ (λ (n : ℕ) (s : ℕ → ℕ → Said). record { count = n; says = s }) (a.count k)
    (fun_ext (λ i. fun_ext (λ f. go (is_read k f) ((d k).says i f) ((e k).says i f)
    (λ h. let w = and-true _ _ h in a.says k i f (leb-true _ _ w.0) (not-true _ w.1))))))
  where
    go : (b : Bool) (x y : Said) → (b ≡ true → x ≡ y) → pick b x missing ≡ pick b y missing
    go true x y h = h refl
    go false x y h = refl

-- REFERENCES are read, and so are the fields that they refer to
abbrev read_by : Target → Bool → Bool
read_by Free own = true
read_by Nowhere own = own
read_by (To k g) own = own && is_read k g

referring : (k : Kind) (f : ℕ) → read_by (target_of k f) (is_read k f) ≡ true
unfolding everywhere each row target_of is_free_word col_at
referring k f = go (dec_lt f 16)
  where
    go : Dec (f < 16) → read_by (target_of k f) (is_read k f) ≡ true
    go (yes l) = every-place (λ j g. read_by (target_of j g) (is_read j g)) refl k f l
    go (no l) = ap (λ (t : Target). read_by t (is_read k f)) (sym (past (λ (c : Col). c.refers) k f (omega arith)))

-- the same test, and the same answer where it holds
hit_same : {B : Type 0} {t u : Bool} {x y : B} → t ≡ u → (u ≡ true → x ≡ y) → hit t x ≡ hit u y
hit_same {B} {t} {u} {x} {y} e h = rw e (go u h)
  where
    go : (u : Bool) → (u ≡ true → x ≡ y) → hit u x ≡ hit u y
    go true h = ap some (h refl)
    go false h = refl

-- 41's letter
abbrev catalogued_as : Delivery → Kind → ℕ → ℕ → ℕ
catalogued_as d k i f = letter_in ((d Catalogo).says (first_with (λ j. name_at Catalogo (d Catalogo) j 1) (d Catalogo).count (name_at k (d k) i f)) 2)

module _ (d : Delivery) where
  name-struck : (k : Kind) (i f : ℕ) → is_read k f ≡ true → name_at k (struck d k) i f ≡ name_at k (d k) i f
  unfolding name_at each is_free_word col_at
  name-struck k i f h = rw (h, every (λ j. is_read j 1) refl k)

  key-struck : (k : Kind) (i : ℕ) → key_of k (struck d k) i ≡ key_of k (d k) i
  unfolding key_of each is_free_word col_at
  key-struck k i = rw (name-struck k i 1 (every (λ j. is_read j 1) refl k), every (λ j. is_read j 2) refl k)

  -- THE TESTS, in the order of the rules
  struck-30 : (k : Kind) (i f : ℕ) → breaks30 (struck d) k i f ≡ breaks30 d k i f
  unfolding breaks30
  struck-30 k i f = ap (λ (key : ℕ → ℕ). eqb f (keys_of k) && repeats key i) (fun_ext (key-struck k))

  struck-40 : (k : Kind) (i f : ℕ) → breaks40 (struck d) k i f ≡ breaks40 d k i f
  unfolding breaks40
  struck-40 k i f = go (target_of k f) (referring k f)
    where
      go : (t : Target) → read_by t (is_read k f) ≡ true → dangles_to t (struck d) (name_at k (struck d k) i f) ≡ dangles_to t d (name_at k (d k) i f)
      go Free h = refl
      go Nowhere h = rw (name-struck k i f h)
      go (To j g) h =
          let w = and-true (is_read k f) (is_read j g) h in
          ap₂ (λ (key : ℕ → ℕ) (x : ℕ). dangles key (d j).count x) (fun_ext (λ r. name-struck j r g w.1)) (name-struck k i f w.0)

  struck-41 : (k : Kind) (i f : ℕ) → breaks41 (struck d) k i f ≡ breaks41 d k i f
  unfolding breaks41 mistyped typed_in name_at is_free_word col_at
  struck-41 k i f = go (target_of k f) (referring k f)
    where
      go :
          (t : Target) → read_by t (is_read k f) ≡ true
          → (refers_to_catalogue t && mistyped (letter_of k) (struck d Catalogo) (name_at k (struck d k) i f)) ≡ (refers_to_catalogue t && mistyped (letter_of k) (d Catalogo) (name_at k (d k) i f))
      go Free h = refl
      go Nowhere h = refl
      go (To j g) h = ap (λ (x : ℕ). refers_to_catalogue (To j g) && mistyped (letter_of k) (d Catalogo) x) (name-struck k i f (and-true (is_read k f) (is_read j g) h).0)

  tests-struck : (t : ℕ) (k : Kind) (i f : ℕ) → key_tests t (struck d) k i f ≡ key_tests t d k i f
  unfolding key_tests
  tests-struck t k i f = rw (struck-30 k i f, struck-40 k i f, struck-41 k i f)

  -- THE REASONS: the letter that a code is catalogued under is that of any field's name, and only a reference's is told
  letter-struck : (k : Kind) (i f : ℕ) → breaks41 d k i f ≡ true → catalogued_as (struck d) k i f ≡ catalogued_as d k i f
  unfolding breaks41 name_at is_free_word col_at
  letter-struck k i f = go (target_of k f) (referring k f)
    where
      go :
          (t : Target) → read_by t (is_read k f) ≡ true → (refers_to_catalogue t && mistyped (letter_of k) (d Catalogo) (name_at k (d k) i f)) ≡ true
          → catalogued_as (struck d) k i f ≡ catalogued_as d k i f
      go Free r h = absurd (true-false (sym h))
      go Nowhere r h = absurd (true-false (sym h))
      go (To j g) r h =
          ap (λ (x : ℕ). letter_in ((d Catalogo).says (first_with (λ j. name_at Catalogo (d Catalogo) j 1) (d Catalogo).count x) 2))
          (name-struck k i f (and-true (is_read k f) (is_read j g) r).0)

  reason-struck :
      (k : Kind) (i f t u : ℕ) → get_or (key_tests t d k i f) u false ≡ true
      → get_or (key_reasons t (struck d) k i f) u LongFile10 ≡ get_or (key_reasons t d k i f) u LongFile10
  unfolding key_tests key_reasons
  reason-struck k i f zero u h = refl
  reason-struck k i f (suc zero) u h = refl
  reason-struck k i f (suc (suc zero)) u h = refl
  reason-struck k i f (suc (suc (suc zero))) u h =
      ap (λ (key : ℕ → ℕ). get_or (SameKey30 (suc (first_with key i (key i))) ∷ []) u LongFile10) (fun_ext (key-struck k))
  reason-struck k i f (suc (suc (suc (suc zero)))) zero h = refl
  reason-struck k i f (suc (suc (suc (suc zero)))) (suc zero) h = ap OtherType41 (letter-struck k i f h)
  reason-struck k i f (suc (suc (suc (suc zero)))) (suc (suc u)) h = refl
  reason-struck k i f (suc (suc (suc (suc (suc t))))) u h = refl

  cell-struck : (t : ℕ) (k : Kind) (i c : ℕ) → cell_break (key_tests t (struck d) k) (key_reasons t (struck d) k) k i c ≡ cell_break (key_tests t d k) (key_reasons t d k) k i c
  unfolding cell_break
  cell-struck t k i c =
      hit_same (ap (λ (ts : List Bool). get_or ts (c % 10) false) (tests-struck t k i (c / 10)))
      (λ h. ap (λ (r : Reason). break_of r k (i + 1) (c / 10)) (reason-struck k i (c / 10) t (c % 10) h))

  keys-struck : (t : ℕ) → keys_finding t (struck d) ≡ keys_finding t d
  unfolding keys_finding keys_in group_finding
  keys-struck t = ap over_files (fun_ext (λ k. ap finding_of (first-same _ _ (d k).count (λ i l. first-same _ _ (cells_of k) (λ c m. cell-struck t k i c)))))

  keys-broken-struck : (k : Kind) (n i f : ℕ) → keys_broken (struck d) k n i f ≡ keys_broken d k n i f
  unfolding keys_broken broken_by
  keys-broken-struck k n i f = rw (tests-struck (n / 10) k (i - 1) f)

module _ {d e : Delivery} (a : Agrees d e) where
  pub keys-agree : (t : ℕ) → keys_finding t d ≡ keys_finding t e
  keys-agree t = sym (keys-struck d t) ∙ ap (keys_finding t) (struck-same a) ∙ keys-struck e t

  pub keys-broken-agree : (k : Kind) (n i f : ℕ) → keys_broken d k n i f ≡ keys_broken e k n i f
  keys-broken-agree k n i f = sym (keys-broken-struck d k n i f) ∙ ap (λ (x : Delivery). keys_broken x k n i f) (struck-same a) ∙ keys-broken-struck e k n i f
