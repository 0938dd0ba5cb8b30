-- What a reason that is shown carries (specs/Answers.antt, `other_of`) fits: an earlier record is one of at most 16,384, and the letter that
-- a code is catalogued under is in its domain, since what is outside it is told before. So the answer of a judging tells all that is shown.
-- Assumes nothing.
use Prim.Native.Nat.{ℕ, zero, suc, ◌+◌, ◌-◌, ◌/◌, ◌%◌, ◌<◌, ◌≤◌}
use mathlib.Core.Bool.{Bool, true, false, not, ◌&&◌, ◌||◌}
use mathlib.Core.List.{List, [], ◌∷◌}
use mathlib.Core.Option.{Option, none, some}
use mathlib.Core.Path.{◌≡◌, refl, sym, ap, subst, ◌∙◌}
use native.Mathlib.Decide.{dec_lt}
use native.Mathlib.Nat.{min-le_right}
use native.Mathlib.Omega.{arith}
use lib.Dec.{eqb, leb}
use lib.ListN.{get_or}
use borrow.Author.Tests.{ne_eqb, le-leb, leb-true}
use Rattle.laws.specs.Find.{first_index, names}
use Rattle.laws.specs.Nest.{before}
use Rattle.laws.specs.Row.{pick, each}
use Rattle.laws.proofs.FindLaws.{true-false, any_none, index-some-at}
use Rattle.laws.proofs.RowLaws.{and-true, true-and}
use Rattle.field.specs.declared.class.Class.TheVariants.{Blank}
use Rattle.field.specs.Bytes.{all_of}
use Rattle.field.specs.Texts.{trimmed}
use Rattle.field.proofs.TextLaws.{trimmed-first, trimmed-some}
use Rattle.record.specs.declared.kind.Kind.{Kind}
use Rattle.record.specs.declared.kind.Kind.TheVariants.{Catalogo}
use Rattle.record.specs.declared.kind.Form.TheVariants.{Words}
use Rattle.record.specs.declared.kind.Domain.TheVariants.{ObjectType}
use Rattle.record.specs.declared.reason.Reason.{Reason}
use Rattle.record.specs.declared.reason.Reason.TheVariants.{LongFile10}
use Rattle.record.specs.declared.reason.Break.{Break}
use Rattle.std.specs.Prelude.{Err}
use Rattle.record.specs.Table.{fields_of, form_at, domain_at, col_at, letter_of, target_of, limit}
use Rattle.record.specs.Cut.{count_of, record_of, text_of}
use Rattle.record.specs.Says.{said_as, said_in, letter_in, missing, text}
use Rattle.record.specs.Files.{Files, Delivery, delivery_of}
use Rattle.record.specs.Names.{name_at}
use Rattle.record.specs.Rules.{twenties, not_number, breaks22, breaks23, breaks25, missing_in, word_within, in_domain, outside}
use Rattle.record.specs.Breaks.{number_of, ten_reasons, twenty_reasons, there, tests_at, broken}
use Rattle.keys.specs.machinery.Groups.{broken_by}
use Rattle.keys.specs.Rules.{or_first, first_with, refers_to_catalogue, mistyped, typed_in, breaks41, key_tests, key_reasons}
use Rattle.keys.specs.machinery.Findings.{keys_broken}
use Rattle.topology.specs.Rules.{fifty_reasons}
use Rattle.fifties.specs.machinery.Findings.{topology_broken}
use Rattle.objects.specs.Rules.{seventy_reasons}
use Rattle.objects.specs.machinery.Findings.{objects_broken}
use Rattle.judge.specs.Verdict.{judged}
use Rattle.judge.specs.Broken.{reason_of, place_at}
use Rattle.judge.specs.machinery.Searched.{broken_in}
use Rattle.judge.proofs.Plain.{LeastBroken, FoundFirst}
use Rattle.judge.proofs.Exact.{found-judged}
use Rattle.canopyrail.specs.Answers.{other_of, break_word, finding_word, reason_in, file_in, record_in, field_in, other_in}
use Rattle.canopyrail.proofs.Fits.{keys-where, topology-where, less-first, place-fits}
use Rattle.canopyrail.proofs.Border.{apart, other-apart}

-- AN EARLIER RECORD'S NUMBER
earlier-fits : (p : ℕ → Bool) (i : ℕ) → i ≤ limit → suc (or_first (first_index p (i - 1))) ≤ limit
earlier-fits p i l = go (first_index p (i - 1)) refl
  where
    go : (o : Option ℕ) → first_index p (i - 1) ≡ o → suc (or_first o) ≤ limit
    go none e = omega arith
    go (some j) e = omega (arith, (index-some-at p (i - 1) e).0)

-- REASONS each of which carries what fits: a letter, where it is 41, else a record's number or nothing
abbrev most : Reason → ℕ
most r = pick (eqb (number_of r) 41) 255 limit

abbrev fitting : Reason → Bool
fitting r = leb (other_of r) (most r)

at-fits : (rs : List Reason) (u : ℕ) → each fitting rs ≡ true → other_of (get_or rs u LongFile10) ≤ most (get_or rs u LongFile10)
unfolding each
at-fits [] u h = let z : 0 ≤ limit = omega arith in z
at-fits (r ∷ rs) zero h = leb-true (other_of r) (most r) (and-true (fitting r) (each fitting rs) h).0
at-fits (r ∷ rs) (suc u) h = at-fits rs u (and-true (fitting r) (each fitting rs) h).1

-- one of them carries an earlier record's number
earlier-fitting : (p : ℕ → Bool) (i : ℕ) → i ≤ limit → (leb (suc (or_first (first_index p (i - 1)))) limit && true) ≡ true
earlier-fitting p i l = true-and _ true (le-leb (suc (or_first (first_index p (i - 1)))) limit (earlier-fits p i l)) refl

-- A LETTER in the domain
in-domain-small : (t : List ℕ) → word_within ObjectType t ≡ true → get_or t 0 0 ≤ 255
unfolding word_within
in-domain-small t e = go (dec_lt 255 (get_or t 0 0))
  where
    go : Dec (255 < get_or t 0 0) → get_or t 0 0 ≤ 255
    go (no h) = omega arith
    go (yes h) =
        absurd (true-false (sym (rw (
          ne_eqb (get_or t 0 0) 80 (λ q. omega (arith, h, q)),
          ne_eqb (get_or t 0 0) 88 (λ q. omega (arith, h, q)),
          ne_eqb (get_or t 0 0) 76 (λ q. omega (arith, h, q)),
          ne_eqb (get_or t 0 0) 84 (λ q. omega (arith, h, q)),
          ne_eqb (get_or t 0 0) 67 (λ q. omega (arith, h, q)),
        ) at e)))

not-outside : (t next : List ℕ) → outside Words ObjectType t next ≡ false → word_within ObjectType t ≡ true
unfolding in_domain outside
not-outside t next e = go (word_within ObjectType t) e
  where
    go : (b : Bool) → (not b || false) ≡ false → b ≡ true
    go true h = refl
    go false h = absurd (true-false h)

-- the type of a catalogue's record that breaks neither 23 nor 25
letter-small : (s : List ℕ) → breaks23 s Catalogo 2 ≡ false → breaks25 s Catalogo 2 ≡ false → letter_in (said_in s Catalogo 2) ≤ 255
unfolding said_in said_as breaks25 breaks22 not_number missing_in outside in_domain form_at domain_at col_at text_of
letter-small s e₃ e₅ = go (all_of Blank (text_of s Catalogo 2)) refl
  where
    t : List ℕ
    t = text_of s Catalogo 2

    go : (b : Bool) → all_of Blank t ≡ b → letter_in (pick b missing (text (trimmed t))) ≤ 255
    go true q = let z : 0 ≤ 255 = omega arith in z
    go false q =
        let out : outside Words ObjectType t (text_of s Catalogo 3) ≡ false = rw (e₃, q) at e₅ in
        rw (trimmed-first t (trimmed-some t q)) (in-domain-small t (not-outside t (text_of s Catalogo 3) out))

-- what is told of a record's fields, by the record's bytes
twenty-at : (s : List ℕ) (k : Kind) (j f u : ℕ) → j < count_of s k → f ≤ fields_of k → get_or (tests_at 2 s k (j + 1) f) u false ≡ get_or (twenties (record_of s k j) k f) u false
unfolding tests_at
twenty-at s k j f u l m =
    let back : j + 1 - 1 ≡ j = omega arith in
    let one = true-and _ _ (le-leb 1 (j + 1) (omega arith)) (le-leb (j + 1) (count_of s k) (omega arith)) in
    let here : there s k (j + 1) f ≡ true = true-and _ _ one (le-leb f (fields_of k) m) in
    ap (λ (b : Bool). get_or (pick b (twenties (record_of s k (j + 1 - 1)) k f) []) u false) here
    ∙ ap (λ (m : ℕ). get_or (twenties (record_of s k m) k f) u false) back

-- a code that 41 is told of is catalogued
catalogued : (d : Delivery) (k : Kind) (i f : ℕ) → breaks41 d k i f ≡ true
    → names (λ j. name_at Catalogo (d Catalogo) j 1) (d Catalogo).count (name_at k (d k) i f) ≡ true
unfolding breaks41 mistyped
catalogued d k i f e =
    let x = name_at k (d k) i f in
    let q = (and-true (refers_to_catalogue (target_of k f)) (mistyped (letter_of k) (d Catalogo) x) e).1 in
    (and-true (names (λ j. name_at Catalogo (d Catalogo) j 1) (d Catalogo).count x) (not (typed_in (letter_of k) (d Catalogo) x)) q).0

module _ (files : Files) (n : ℕ) (k : Kind) (i f : ℕ)
    (least : (n' : ℕ) (k' : Kind) (i' f' : ℕ) → broken_in files n' k' i' f' ≡ true → before (place_at n' k' i' f') (place_at n k i f) ≡ true → ⊥) where
  -- where a higher ten is shown, no record breaks 20 to 25
  module _ (j : ℕ) (h : 2 < n / 10) (l : j < count_of (files Catalogo) Catalogo) where
    not-told : (m : ℕ) (b : Bool) → m / 10 ≡ 2 → broken_in files m Catalogo (j + 1) 2 ≡ b → b ≡ false
    not-told m true q e = absurd (least m Catalogo (j + 1) 2 e (less-first (m / 10) (n / 10) _ _ (omega (arith, q, h))))
    not-told m false q e = refl

    lawful-23 : breaks23 (record_of (files Catalogo) Catalogo j) Catalogo 2 ≡ false
    unfolding broken_in broken
    lawful-23 = not-told 23 _ refl (twenty-at (files Catalogo) Catalogo j 2 3 l (omega arith))

    lawful-25 : breaks25 (record_of (files Catalogo) Catalogo j) Catalogo 2 ≡ false
    unfolding broken_in broken
    lawful-25 = not-told 25 _ refl (twenty-at (files Catalogo) Catalogo j 2 5 l (omega arith))

  -- so the letter of a code that is catalogued is in its domain
  letter-fits : (x : ℕ) → 2 < n / 10 → names (λ j. name_at Catalogo (delivery_of files Catalogo) j 1) (delivery_of files Catalogo).count x ≡ true
      → letter_in ((delivery_of files Catalogo).says (first_with (λ j. name_at Catalogo (delivery_of files Catalogo) j 1) (delivery_of files Catalogo).count x) 2) ≤ 255
  letter-fits x h e = go (first_index p m) refl
    where
      m : ℕ
      m = (delivery_of files Catalogo).count

      p : ℕ → Bool
      p j = eqb (name_at Catalogo (delivery_of files Catalogo) j 1) x

      go : (o : Option ℕ) → first_index p m ≡ o → letter_in ((delivery_of files Catalogo).says (or_first o) 2) ≤ 255
      go none q = absurd (true-false (sym e ∙ any_none p m q))
      go (some j) q =
          let l : j < count_of (files Catalogo) Catalogo = omega (arith, (index-some-at p m q).0, min-le_right limit (count_of (files Catalogo) Catalogo)) in
          letter-small (record_of (files Catalogo) Catalogo j) (lawful-23 j h l) (lawful-25 j h l)

  -- WHAT IS SHOWN, by the tens of the reason and the reason
  reason-fits : broken_in files n k i f ≡ true → other_of (reason_of files n k i f) ≤ most (reason_of files n k i f)
  unfolding broken_in reason_of key_reasons fifty_reasons keys_broken broken_by key_tests each
  reason-fits e = go (n / 10) (n % 10) refl refl e
    where
      d : Delivery
      d = delivery_of files

      tests : List Bool
      tests =
          false
          ∷ broken (files k) k n i f
          ∷ broken (files k) k n i f
          ∷ keys_broken d k n i f
          ∷ keys_broken d k n i f
          ∷ topology_broken d k n i f
          ∷ false
          ∷ objects_broken d k n i f
          ∷ []

      reasons : List (List Reason)
      reasons =
          []
          ∷ ten_reasons
          ∷ twenty_reasons
          ∷ key_reasons 3 d k (i - 1) f
          ∷ key_reasons 4 d k (i - 1) f
          ∷ fifty_reasons d k (i - 1) f
          ∷ []
          ∷ seventy_reasons
          ∷ []

      none_told : 0 ≤ limit
      none_told = omega arith

      mistyped-told : n / 10 ≡ 4 → n % 10 ≡ 1 → keys_broken d k n i f ≡ true → breaks41 d k (i - 1) f ≡ true
      mistyped-told t u h = rw (t, u) at (and-true (leb 1 i && leb i (d k).count && leb f (fields_of k)) _ h).1

      go : (t u : ℕ) → n / 10 ≡ t → n % 10 ≡ u → get_or tests t false ≡ true → other_of (get_or (get_or reasons t []) u LongFile10) ≤ most (get_or (get_or reasons t []) u LongFile10)
      go zero u p q h = none_told
      go (suc zero) u p q h = at-fits ten_reasons u refl
      go (suc (suc zero)) u p q h = at-fits twenty_reasons u refl
      go (suc (suc (suc zero))) u p q h = at-fits (key_reasons 3 d k (i - 1) f) u (earlier-fitting _ i (keys-where files n k i f h).0)
      go (suc (suc (suc (suc zero)))) zero p q h = none_told
      go (suc (suc (suc (suc zero)))) (suc zero) p q h =
          letter-fits (name_at k (d k) (i - 1) f) (omega (arith, p)) (catalogued d k (i - 1) f (mistyped-told p q h))
      go (suc (suc (suc (suc zero)))) (suc (suc u)) p q h = none_told
      go (suc (suc (suc (suc (suc zero))))) u p q h = at-fits (fifty_reasons d k (i - 1) f) u (earlier-fitting _ i (topology-where files n k i f h).0)
      go (suc (suc (suc (suc (suc (suc zero)))))) u p q h = none_told
      go (suc (suc (suc (suc (suc (suc (suc zero))))))) u p q h = at-fits seventy_reasons u refl
      go (suc (suc (suc (suc (suc (suc (suc (suc t)))))))) u p q h = none_told

pub other_fits : (files : Files) (b : Break) → judged files ≡ Err b → other_of b.reason ≤ pick (eqb (number_of b.reason) 41) 255 limit
unfolding FoundFirst
other_fits files b e = go (subst (FoundFirst files) e (found-judged files))
  where
    go : LeastBroken files b → other_of b.reason ≤ most b.reason
    go w = rw (ap (λ (x : Break). x.reason) w.shown) (reason-fits files w.n w.k w.i w.f w.least w.really)

-- THE ANSWER: all that is shown is had back from it
pub answer-tells :
    (files : Files) (b : Break) → judged files ≡ Err b
    → (reason_in (finding_word (judged files)) ≡ number_of b.reason)
    × (file_in (finding_word (judged files)) ≡ b.file)
    × (record_in (finding_word (judged files)) ≡ b.«record»)
    × (field_in (finding_word (judged files)) ≡ b.field)
    × (other_in (finding_word (judged files)) ≡ other_of b.reason)
unfolding break_word
answer-tells files b e =
    let p = place-fits files b e in
    let o : other_of b.reason < 100000 = small (eqb (number_of b.reason) 41) (other_fits files b e) in
    let t = apart (number_of b.reason) b.file b.«record» b.field (other_of b.reason) (omega (arith, p.0)) (omega (arith, p.1)) (omega (arith, p.2)) in
    rw e (t.0, t.1, t.2, t.3, other-apart (number_of b.reason) b.file b.«record» b.field (other_of b.reason) o)
  where
    small : (c : Bool) {x : ℕ} → x ≤ pick c 255 limit → x < 100000
    small true l = omega arith
    small false l = omega arith
