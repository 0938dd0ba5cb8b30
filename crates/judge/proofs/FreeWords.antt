-- Free words (specs/Words.antt): two deliveries that differ only in these, all lawful, have the same verdict.
-- Assumes nothing.
use Prim.Native.Nat.{ℕ, ◌+◌, ◌-◌, ◌≤◌, ◌<◌, min}
use mathlib.Core.Bool.{Bool, true, false, not, ◌&&◌, ◌||◌, and-false}
use mathlib.Core.List.{List, [], ◌∷◌, map}
use mathlib.Core.Path.{◌≡◌, refl, sym, ap, fun_ext, ◌∙◌}
use native.Mathlib.Decide.{dec_lt}
use native.Mathlib.Omega.{arith}
use lib.Dec.{leb, ltb, eqb}
use lib.ListN.{length, get_or, drop, length-take, length-drop}
use lib.Seq.{ext_get_or, get_or-take, get_or-drop}
use borrow.Author.Tests.{leb-true, eqb-true, eq-eqb, not-true, not-false, le-leb, lt-leb, le-ltb}
use Rattle.laws.specs.Find.{first_of, first_index, any}
use Rattle.laws.specs.Nest.{run}
use Rattle.laws.specs.Row.{row, each}
use Rattle.laws.proofs.FindLaws.{true-false, any-no, any_false, first-same}
use Rattle.laws.proofs.RowLaws.{and-true, true-and, and_last, then-false, each_same}
use Rattle.field.specs.declared.class.Class.TheVariants.{Blank}
use Rattle.field.specs.Bytes.{all_of}
use Rattle.record.specs.declared.kind.Kind.{Kind}
use Rattle.record.specs.declared.kind.Form.{Form}
use Rattle.record.specs.declared.kind.Form.TheVariants.{Words, Code, Sign, Number, Size}
use Rattle.record.specs.declared.kind.Domain.{Domain}
use Rattle.record.specs.declared.kind.Domain.TheVariants.{Any}
use Rattle.record.specs.Table.{col_at, form_at, width_at, must_at, back_at, ahead_at, domain_at, offset_at, fields_of, length_of, kinds, required, is_free_word}
use Rattle.record.specs.machinery.Packed.{form_digit, form_of, domain_digit, domain_of}
use Rattle.record.specs.Cut.{count_of, record_of, text_of}
use Rattle.record.specs.Rules.{breaks10, breaks11, breaks20, breaks21, not_number, breaks22, breaks23, missing_in, partners_blank, breaks24, word_within, in_domain, outside, breaks25, twenties}
use Rattle.record.specs.Breaks.{finding_of, at_place, twenty_reasons, record_breaks, shape_finding, fields_finding}
use Rattle.record.specs.Table.{limit, is_free_word}
use Rattle.record.specs.Files.{Files, delivery_of}
use Rattle.record.specs.Says.{said_as, said_in}
use Rattle.record.proofs.TableLaws.{every}
use Rattle.record.proofs.PackedLaws.{form-digit, domain-digit}
use Rattle.record.proofs.CutLaws.{record-past, record-long}
use Rattle.record.proofs.FindingLaws.{in_file, fields-is, shape_is}
use Rattle.keys.specs.machinery.Groups.{break_in, over_files}
use Rattle.keys.proofs.Agree.{Agrees, is_read, keys-agree}
use Rattle.fifties.proofs.Agree.{topology-agree}
use Rattle.objects.proofs.Agree.{objects-agree}
use Rattle.judge.specs.Broken.{last_ten, counts_of}
use Rattle.judge.specs.Verdict.{judged, verdict_of}
use Rattle.judge.specs.machinery.Searched.{group_at, searched}
use Rattle.judge.proofs.Exact.{searched-is}
use Rattle.judge.specs.Words.{in_free, SameButWords}

-- THE TABLE: a test of the places of every kind, computed once, holds at each
placewise : (p : Kind → ℕ → Bool) → each (λ j. not (any (λ f. not (p j f)) (fields_of j + 1))) kinds ≡ true → (k : Kind) (f : ℕ) → f ≤ fields_of k → p k f ≡ true
placewise p e k f l = not-false _ (any-no (λ f. not (p k f)) (fields_of k + 1) (not-true _ (every _ e k)) (omega arith))

-- where a guard holds
guarded : (a b : Bool) → (not a || b) ≡ true → a ≡ true → b ≡ true
guarded true b e h = e
guarded false b e h = absurd (true-false (sym h))

words-digit : (x : Form) → eqb (form_digit x) 0 ≡ true → x ≡ Words
words-digit x e = sym (form-digit x) ∙ ap form_of (eqb-true (form_digit x) 0 e) ∙ form-digit Words

any-digit : (x : Domain) → eqb (domain_digit x) 0 ≡ true → x ≡ Any
any-digit x e = sym (domain-digit x) ∙ ap domain_of (eqb-true (domain_digit x) 0 e) ∙ domain-digit Any

-- a free field is of words of any kind, may be missing and has no partners
alone_test : Kind → ℕ → Bool
alone_test k f =
    eqb (form_digit (form_at k f)) 0 && (not (required (must_at k f)) && (eqb (back_at k f) 0 && (eqb (ahead_at k f) 0 && eqb (domain_digit (domain_at k f)) 0)))

record Alone (k : Kind) (f : ℕ) : Type 0 where
  form : form_at k f ≡ Words
  must : required (must_at k f) ≡ false
  back : back_at k f ≡ 0
  ahead : ahead_at k f ≡ 0
  domain : domain_at k f ≡ Any

free-alone : (k : Kind) (f : ℕ) → f ≤ fields_of k → is_free_word k f ≡ true → Alone k f
unfolding each any first_index first_of alone_test col_at form_at must_at back_at ahead_at domain_at is_free_word
free-alone k f l h =
    let a = and-true _ _ (guarded (is_free_word k f) (alone_test k f) (placewise (λ j g. not (is_free_word j g) || alone_test j g) refl k f l) h) in
    let b = and-true _ _ a.1 in
    let c = and-true _ _ b.1 in
    let d = and-true _ _ c.1 in
    record {
      form = words-digit (form_at k f) a.0;
      must = not-true _ b.0;
      back = eqb-true _ _ c.0;
      ahead = eqb-true _ _ d.0;
      domain = any-digit (domain_at k f) d.1;
    }

-- what is read of a field that is read: its own text, and of those beside it these
beside_test : Kind → ℕ → Bool
beside_test k f =
    (not (eqb (form_digit (form_at k f)) (form_digit Sign)) || is_read k (f + 1))
    && ((not (eqb (form_digit (form_at k f)) (form_digit Size)) || is_read k (f - 1))
    && not (any (λ j. not (is_read k (f - back_at k f + j))) (back_at k f + ahead_at k f + 1)))

record Beside (k : Kind) (f : ℕ) : Type 0 where
  next : form_at k f ≡ Sign → is_read k (f + 1) ≡ true
  last : form_at k f ≡ Size → is_read k (f - 1) ≡ true
  partners : (j : ℕ) → j < back_at k f + ahead_at k f + 1 → is_read k (f - back_at k f + j) ≡ true

beside : (k : Kind) (f : ℕ) → is_read k f ≡ true → Beside k f
unfolding each any first_index first_of beside_test col_at form_at must_at back_at ahead_at is_free_word
beside k f r =
    let l = leb-true f (fields_of k) (and-true _ _ r).0 in
    let a = and-true _ _ (guarded (is_read k f) (beside_test k f) (placewise (λ j g. not (is_read j g) || beside_test j g) refl k f l) r) in
    let b = and-true _ _ a.1 in
    record {
      next = λ e. guarded _ _ a.0 (eq-eqb _ _ (ap form_digit e));
      last = λ e. guarded _ _ b.0 (eq-eqb _ _ (ap form_digit e));
      partners = λ j h. not-false _ (any-no (λ j. not (is_read k (f - back_at k f + j))) (back_at k f + ahead_at k f + 1) (not-true _ b.1) h);
    }

-- no byte after a field is in a free field, nor are the last two
after_free : (k : Kind) (f : ℕ) → f ≤ fields_of k → in_free k (offset_at k f + width_at k f) ≡ false
unfolding each any first_index first_of in_free offset_at col_at width_at is_free_word
after_free k f l = not-true _ (placewise (λ j g. not (in_free j (offset_at j g + width_at j g))) refl k f l)

ends-free : (k : Kind) → (in_free k (length_of k - 2) ≡ false) × (in_free k (length_of k - 1) ≡ false)
unfolding each any first_index first_of in_free offset_at col_at width_at is_free_word
ends-free k = (not-true _ (every (λ j. not (in_free j (length_of j - 2))) refl k), not-true _ (every (λ j. not (in_free j (length_of j - 1))) refl k))

-- nor is any of a field that is read
apart : ℕ → ℕ → ℕ → ℕ → Bool
apart o w p v = leb (p + v) o || leb (o + w) p

apart_out : (o w p v q : ℕ) → apart o w p v ≡ true → q < w → (leb p (o + q) && ltb (o + q) (p + v)) ≡ false
unfolding apart
apart_out o w p v q e l = go (leb (p + v) o) refl e
  where
    go : (b : Bool) → leb (p + v) o ≡ b → (b || leb (o + w) p) ≡ true → (leb p (o + q) && ltb (o + q) (p + v)) ≡ false
    go true h e = let m = leb-true (p + v) o h in rw (le-ltb (o + q) (p + v) (omega arith)) (and-false (leb p (o + q)))
    go false h e = let m = leb-true (o + w) p e in rw (lt-leb p (o + q) (omega arith))

abbrev apart_at : Kind → ℕ → ℕ → Bool
apart_at k f g = apart (offset_at k f) (width_at k f) (offset_at k g) (width_at k g)

within-free : (k : Kind) (f q : ℕ) → is_read k f ≡ true → q < width_at k f → in_free k (offset_at k f + q) ≡ false
unfolding each any first_index first_of in_free offset_at col_at width_at is_free_word apart
within-free k f q r l =
    let m = leb-true f (fields_of k) (and-true _ _ r).0 in
    let t = not-true _ (guarded (is_read k f) (not (any (λ g. is_free_word k g && not (apart_at k f g)) (fields_of k + 1)))
    (placewise (λ j f. not (is_read j f) || not (any (λ g. is_free_word j g && not (apart_at j f g)) (fields_of j + 1))) refl k f m) r) in
    any_false _ (fields_of k + 1)
    (λ g h. and_last (is_free_word k g) _ (λ e. apart_out (offset_at k f) (width_at k f) (offset_at k g) (width_at k g) q
    (not-false _ (then-false _ _ (any-no (λ g. is_free_word k g && not (apart_at k f g)) (fields_of k + 1) t h) e)) l))

-- TWO RECORDS that differ only in their free words, which are lawful in both
record SameRecord (k : Kind) (s z : List ℕ) : Type 0 where
  long : length s ≡ length z
  bytes : (q : ℕ) → in_free k q ≡ false → get_or s q 0 ≡ get_or z q 0
  lawful : (f : ℕ) → is_free_word k f ≡ true → breaks23 s k f ≡ false
  lawful-too : (f : ℕ) → is_free_word k f ≡ true → breaks23 z k f ≡ false

-- the field after it is read only of a sign, and the field before it only of a coordinate's number
outside-same : (form : Form) (d : Domain) (t n m : List ℕ) → (form ≡ Sign → n ≡ m) → outside form d t n ≡ outside form d t m
unfolding outside
outside-same Words d t n m h = refl
outside-same Code d t n m h = refl
outside-same Sign d t n m h = rw (h refl)
outside-same Number d t n m h = refl
outside-same Size d t n m h = refl

said_same : (form : Form) (t b c : List ℕ) → (form ≡ Size → b ≡ c) → said_as form t b ≡ said_as form t c
unfolding said_as
said_same Words t b c h = refl
said_same Code t b c h = refl
said_same Sign t b c h = refl
said_same Number t b c h = refl
said_same Size t b c h = rw (h refl)

blank-once : (b : Bool) → ((b || false) && not (b && true)) ≡ false
blank-once true = refl
blank-once false = refl

-- of a free field only the A rule can be broken, the bar after it and the record's end
module _ (s : List ℕ) (k : Kind) (f : ℕ) (a : Alone k f) where
  free-blank : partners_blank s k f ≡ (all_of Blank (text_of s k f) && true)
  unfolding partners_blank row each
  free-blank = let q : f - 0 + 0 ≡ f = omega arith in rw (a.back, a.ahead, q)

  free-twenties : breaks23 s k f ≡ false → twenties s k f ≡ breaks20 s k f ∷ breaks21 s k f ∷ false ∷ false ∷ false ∷ false ∷ []
  unfolding breaks22 not_number breaks24 missing_in breaks25 word_within in_domain outside
  free-twenties h = rw (h, a.form, a.domain, a.must, free-blank, blank-once (all_of Blank (text_of s k f)), and-false)

-- the bytes of a field are the record's
text_at : (s : List ℕ) (k : Kind) (f q : ℕ) → q < width_at k f → get_or (text_of s k f) q 0 ≡ get_or s (offset_at k f + q) 0
unfolding text_of
text_at s k f q l = get_or-take (width_at k f) (drop (offset_at k f) s) q 0 l ∙ get_or-drop (offset_at k f) s q 0

length-text : (s : List ℕ) (k : Kind) (f : ℕ) → length (text_of s k f) ≡ min (width_at k f) (length s - offset_at k f)
unfolding text_of
length-text s k f = rw (length-take, length-drop)

module _ (k : Kind) (s z : List ℕ) (x : SameRecord k s z) where
  text_same : (f : ℕ) → is_read k f ≡ true → text_of s k f ≡ text_of z k f
  text_same f r =
      ext_get_or 0 (text_of s k f) (text_of z k f) (length-text s k f ∙ rw x.long (sym (length-text z k f)))
      (λ q l. let h : q < width_at k f = omega (arith, length-text s k f) in
      text_at s k f q h ∙ x.bytes (offset_at k f + q) (within-free k f q r h) ∙ sym (text_at z k f q h))

  said-in-same : (f : ℕ) → is_read k f ≡ true → said_in s k f ≡ said_in z k f
  unfolding said_in
  said-in-same f r = rw (text_same f r) (said_same (form_at k f) (text_of z k f) _ _ (λ e. text_same (f - 1) ((beside k f r).last e)))

  same-20 : (f : ℕ) → breaks20 s k f ≡ breaks20 z k f
  unfolding breaks20
  same-20 f = rw (x.bytes (length_of k - 2) (ends-free k).0, x.bytes (length_of k - 1) (ends-free k).1)

  same-21 : (f : ℕ) → f ≤ fields_of k → breaks21 s k f ≡ breaks21 z k f
  unfolding breaks21
  same-21 f l = rw (x.bytes (offset_at k f + width_at k f) (after_free k f l))

  module _ (f : ℕ) (r : is_read k f ≡ true) where
    same-22 : breaks22 s k f ≡ breaks22 z k f
    unfolding breaks22
    same-22 = rw (text_same f r)

    same-23 : breaks23 s k f ≡ breaks23 z k f
    unfolding breaks23
    same-23 = rw (text_same f r)

    same-partners : partners_blank s k f ≡ partners_blank z k f
    unfolding partners_blank
    same-partners = each_same _ _ _ _ _ (λ j l. ap (all_of Blank) (text_same (f - back_at k f + j) ((beside k f r).partners j l)))

    same-24 : breaks24 s k f ≡ breaks24 z k f
    unfolding breaks24
    same-24 = rw (text_same f r, same-partners)

    same-25 : breaks25 s k f ≡ breaks25 z k f
    unfolding breaks25
    same-25 =
        rw (same-22, same-23, text_same f r, outside-same (form_at k f) (domain_at k f) (text_of z k f) _ _ (λ e. text_same (f + 1) ((beside k f r).next e)))

  twenties-same : (f : ℕ) → f ≤ fields_of k → twenties s k f ≡ twenties z k f
  twenties-same f l = go (is_free_word k f) refl
    where
      go : (b : Bool) → is_free_word k f ≡ b → twenties s k f ≡ twenties z k f
      go true e =
          let a = free-alone k f l e in
          free-twenties s k f a (x.lawful f e) ∙ rw (same-20 f, same-21 f l) (sym (free-twenties z k f a (x.lawful-too f e)))
      go false e =
          let r : is_read k f ≡ true = true-and _ _ (le-leb f (fields_of k) l) (rw e) in
          rw (same-20 f, same-21 f l, same-22 f r, same-23 f r, same-24 f r, same-25 f r)

-- TWO DELIVERIES
module _ (files others : Files) (w : SameButWords files others) where
  count_same : (k : Kind) → count_of (files k) k ≡ count_of (others k) k
  unfolding count_of
  count_same k = rw (w.long k)

  record_same : (k : Kind) (i : ℕ) → SameRecord k (record_of (files k) k i) (record_of (others k) k i)
  record_same k i = record { long = go (dec_lt i (count_of (files k) k)); bytes = w.bytes k i; lawful = w.lawful k i; lawful-too = w.lawful-too k i }
    where
      go : Dec (i < count_of (files k) k) → length (record_of (files k) k i) ≡ length (record_of (others k) k i)
      go (yes l) = record-long (files k) k i l ∙ sym (record-long (others k) k i (rw (← count_same k) l))
      go (no l) =
          ap length (record-past (files k) k i (omega arith) ∙ sym (record-past (others k) k i (omega (arith, count_same k))))

  agree : Agrees (delivery_of files) (delivery_of others)
  agree =
      record {
        count = λ k. ap (min limit) (count_same k);
        says = λ k i f l e. said-in-same k _ _ (record_same k i) f (true-and _ _ (le-leb f (fields_of k) l) (rw e));
      }

  shape_same : (k : Kind) → shape_finding (files k) k ≡ shape_finding (others k) k
  unfolding breaks10 breaks11
  shape_same k = shape_is (files k) k ∙ rw (w.long k, count_same k) (sym (shape_is (others k) k))

  file-same : (k : Kind) (i : ℕ) → in_file (files k) k i ≡ in_file (others k) k i
  unfolding in_file record_breaks run
  file-same k i =
      first-same _ _ (fields_of k + 1)
      (λ f l. ap (λ (ts : List Bool). run (at_place ts twenty_reasons k (i + 1) f)) (twenties-same k _ _ (record_same k i) f (omega arith)))

  fields-same : (k : Kind) → fields_finding (files k) k ≡ fields_finding (others k) k
  fields-same k = rw (fields-is (files k) k, fields-is (others k) k, count_same k) (ap finding_of (first-same _ _ (count_of (others k) k) (λ i l. file-same k i)))

  group-same : (t : ℕ) → group_at files t ≡ group_at others t
  unfolding group_at
  group-same t =
      rw
      (ap over_files (fun_ext shape_same), ap over_files (fun_ext fields-same), keys-agree agree 3, keys-agree agree 4, topology-agree agree, objects-agree agree)

  judged-same : judged files ≡ judged others
  unfolding searched
  judged-same = sym (searched-is files) ∙ ap finding_of (first-same _ _ (last_ten + 1) (λ t l. ap break_in (group-same t))) ∙ searched-is others

  counts_same : counts_of files ≡ counts_of others
  unfolding counts_of
  counts_same = ap (λ (count : Kind → ℕ). map count kinds) (fun_ext count_same)

  pub free-words : verdict_of files ≡ verdict_of others
  unfolding verdict_of
  free-words = rw (judged-same, counts_same)
