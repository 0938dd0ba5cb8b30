-- What the tests of a glance tell (specs/Glance.antt): at a place where they hold nothing is broken, and a record where they hold at
-- every place has no break.
-- Assumes nothing.
use Prim.Native.Nat.{ℕ, ◌+◌, ◌-◌, ◌<◌, ◌≤◌}
use mathlib.Core.Bool.{Bool, true, false, not, ◌&&◌, ◌||◌}
use mathlib.Core.Bool as bool
use mathlib.Core.List.{List, [], ◌∷◌}
use mathlib.Core.Option.{none}
use mathlib.Core.Path.{◌≡◌, refl, sym, ap, ◌∙◌}
use native.Mathlib.Decide.{dec_lt}
use native.Mathlib.Omega.{arith}
use lib.Dec.{ltb, eqb}
use lib.ListN.{length, get_or, drop, length-drop, get_or-eq_default}
use lib.Seq.{length-take-le}
use borrow.Author.Tests.{ltb-true, eqb-true, eq-eqb, ne_eqb, not-true}
use Rattle.laws.specs.Nest.{run}
use Rattle.laws.specs.Row.{pick, row, each}
use Rattle.laws.proofs.FindLaws.{true-false, first-none, hit-false}
use Rattle.laws.proofs.RowLaws.{and-true, Falses, end, more, falses}
use Rattle.field.specs.declared.class.Class.{Class}
use Rattle.field.specs.declared.class.Class.TheVariants.{Blank, Digit, Plain}
use Rattle.field.specs.Bytes.{all_of}
use Rattle.field.specs.Texts.{trimmed, trim_to, edged_by, lawful_text, not_given}
use Rattle.field.proofs.TextLaws.{lawful-blank, plain-lawful, not-blank-first, trimmed-first, trimmed-some, padded-trimmed}
use Rattle.field.proofs.TextLoops.{padded-past}
use Rattle.record.specs.declared.kind.Kind.{Kind}
use Rattle.record.specs.declared.kind.Form.{Form}
use Rattle.record.specs.declared.kind.Domain.{Domain}
use Rattle.std.specs.Prelude.{Ok}
use Rattle.record.specs.Table.{Col, required, col_at, form_at, width_at, must_at, back_at, ahead_at, domain_at, offset_at, fields_of, length_of, is_n, is_code}
use Rattle.record.specs.Cut.{text_of}
use Rattle.record.specs.Rules.{breaks20, breaks21, breaks22, breaks23, breaks24, breaks25, not_number, not_text, missing_in, partners_blank, outside, twenties}
use Rattle.record.specs.Breaks.{finding_of, at_place, record_finding}
use Rattle.record.specs.machinery.Glance.{cut, bar_at, full, end_at}
use Rattle.record.proofs.TableLaws.{sane}
use Rattle.record.proofs.RuleLaws.{partners-none}
use Rattle.record.proofs.FindingLaws.{in_record, record_is}

-- TESTS
pub either : (a b : Bool) {P : Type 0} → (a ≡ true → P) → (b ≡ true → P) → (a || b) ≡ true → P
either true b p q e = p refl
either false b p q e = q e

-- PLACES from a up to e
abbrev pub Over : (ℕ → Type 0) → ℕ → ℕ → Type 0
Over P a e = (g : ℕ) → a ≤ g → g < e → P g

pub over-one : (P : ℕ → Type 0) (a : ℕ) → P a → Over P a (a + 1)
over-one P a p g l u = let e : a ≡ g = omega arith in rw (← e) p

pub over-both : (P : ℕ → Type 0) (a m : ℕ) {e : ℕ} → Over P a m → Over P m e → Over P a e
over-both P a m {e} p q g l u = go (dec_lt g m)
  where
    go : Dec (g < m) → P g
    go (yes h) = p g l h
    go (no h) = q g (omega arith) u

pub over-two : (P : ℕ → Type 0) (a : ℕ) → P a → P (a + 1) → Over P a (a + 2)
over-two P a p q = over-both P a (a + 1) (over-one P a p) (λ g l u. over-one P (a + 1) q g l (omega arith))

-- A PLACE where nothing is broken
abbrev pub Clean : List ℕ → Kind → ℕ → Type 0
Clean s k f = Falses (twenties s k f)

pub clean : (s : List ℕ) (k : Kind) (f : ℕ) → breaks20 s k f ≡ false → breaks21 s k f ≡ false → breaks22 s k f ≡ false → breaks23 s k f ≡ false
    → breaks24 s k f ≡ false → breaks25 s k f ≡ false → Clean s k f
clean s k f e20 e21 e22 e23 e24 e25 = more e20 (more e21 (more e22 (more e23 (more e24 (more e25 end)))))

clean-none : (s : List ℕ) (k : Kind) (i f : ℕ) → Clean s k f → in_record s k i f ≡ none
unfolding in_record run at_place
clean-none s k i f h = first-none _ _ (λ u l. hit-false _ _ (falses h u))

record-fine : (s : List ℕ) (k : Kind) → Over (Clean s k) 0 (fields_of k + 1) → (i : ℕ) → record_finding s k i ≡ Ok tt
record-fine s k h i = record_is s k i ∙ ap finding_of (first-none (in_record s k i) (fields_of k + 1) (λ f l. clean-none s k i f (h f (omega arith) l)))

-- A TEXT that is full is no blank,
full-first : (c : Class) (t : List ℕ) → full c t ≡ true → 32 < get_or t 0 0
unfolding full
full-first c t e = ltb-true _ _ (and-true (ltb 32 (get_or t 0 0)) (all_of c t) e).0

full-all : (c : Class) (t : List ℕ) → full c t ≡ true → all_of c t ≡ true
unfolding full
full-all c t e = (and-true (ltb 32 (get_or t 0 0)) (all_of c t) e).1

some_bytes : (t : List ℕ) → 32 < get_or t 0 0 → 0 < length t
some_bytes [] l = absurd (omega arith)
some_bytes (b ∷ t) l = omega arith

pub full-some : (c : Class) (t : List ℕ) → full c t ≡ true → all_of Blank t ≡ false
full-some c t e =
    let l = full-first c t e in
    not-blank-first t (some_bytes t l) (ne_eqb (get_or t 0 0) 32 (λ q. omega arith))

-- and keeps the rule of its form, by whether that is an N field's
full-number : (n : Bool) (t : List ℕ) → full (pick n Digit Plain) t ≡ true → (n && not (all_of Blank t) && not (all_of Digit t)) ≡ false
full-number true t e = rw (full-all Digit t e, bool.and-false)
full-number false t e = refl

full-text : (n : Bool) (t : List ℕ) → full (pick n Digit Plain) t ≡ true → (not n && not (lawful_text t)) ≡ false
full-text true t e = refl
full-text false t e =
    let l = full-first Plain t e in
    rw (plain-lawful t (λ q. omega arith) (full-all Plain t e))

blank-text : (t : List ℕ) → all_of Blank t ≡ true → lawful_text t ≡ true
unfolding all_of lawful_text edged_by trimmed trim_to each
blank-text [] e = refl
blank-text (b ∷ t) e = sym (lawful-blank (b ∷ t) (eqb-true b 32 (and-true _ _ e).0)) ∙ e

-- and is not NA or ND where it begins with another byte
pub no-n : (t : List ℕ) → all_of Blank t ≡ false → not (eqb (get_or t 0 0) 78) ≡ true → not_given (trimmed t) ≡ false
unfolding not_given
no-n t h e = rw (trimmed-first t (trimmed-some t h), not-true (eqb (get_or t 0 0) 78) e, bool.and-false)

-- or has a third that is no blank: more than two bytes are left of it
third-blank : (t : List ℕ) → 2 < length t → length (trimmed t) ≡ 2 → get_or t 2 0 ≡ 32
third-blank t l q = ap (λ (u : List ℕ). get_or u 2 0) (sym (padded-trimmed t)) ∙ padded-past (length t) (trimmed t) 2 l (omega arith)

pub longer : (t : List ℕ) → 2 < length t → not (eqb (get_or t 2 0) 32) ≡ true → not_given (trimmed t) ≡ false
unfolding not_given
longer t l e = rw (ne_eqb (length (trimmed t)) 2 (λ q. true-false (sym (eq-eqb (get_or t 2 0) 32 (third-blank t l q)) ∙ not-true (eqb (get_or t 2 0) 32) e)))

-- a sign is within its domain, by the tests of +, of - and of zero
pub sign-within : (plus minus zeros : Bool) → (plus ≡ true → minus ≡ false) → (plus || minus && not zeros) ≡ true → (not (plus || minus) || minus && zeros) ≡ false
sign-within true minus zeros d h = rw (d refl)
sign-within false true zeros d h = not-true zeros h
sign-within false false zeros d h = absurd (true-false (sym h))

-- A FIELD is clean
module _ (s : List ℕ) (k : Kind) (f : ℕ) (l : 0 < f) (bar : breaks21 s k f ≡ false) where
  no_end : breaks20 s k f ≡ false
  unfolding breaks20
  no_end = rw (ne_eqb f 0 (λ e. omega arith))

  -- where it is full, no NA and no ND, and not outside its domain,
  pub full-clean :
      (form : Form) (domain : Domain) → form_at k f ≡ form → domain_at k f ≡ domain → full (pick (is_n form) Digit Plain) (text_of s k f) ≡ true
      → (is_code form && not_given (trimmed (text_of s k f))) ≡ false → outside form domain (text_of s k f) (text_of s k (f + 1)) ≡ false → Clean s k f
  unfolding breaks22 breaks23 breaks24 breaks25 not_number not_text missing_in
  full-clean form domain q d h given within =
      clean s k f no_end bar
      (rw q (full-number (is_n form) (text_of s k f) h))
      (rw q (full-text (is_n form) (text_of s k f) h))
      (rw (q, given, full-some _ (text_of s k f) h))
      (rw (q, d, within, bool.and-false))

  -- or blank as its partners are, where it may be
  blank-inside : missing_in (form_at k f) (text_of s k f) ≡ true → breaks25 s k f ≡ false
  unfolding breaks25
  blank-inside h = rw (h, bool.and-false (not (breaks22 s k f) && not (breaks23 s k f)))

  pub blank-clean : required (must_at k f) ≡ false → all_of Blank (text_of s k f) ≡ true → partners_blank s k f ≡ true → Clean s k f
  unfolding breaks22 breaks23 breaks24 not_number not_text missing_in
  blank-clean m h p =
      clean s k f no_end bar
      (rw (h, bool.and-false))
      (rw (blank-text (text_of s k f) h, bool.and-false))
      (rw (h, m, p))
      (blank-inside (rw h))

-- there is no bar after the last
pub last-bar : (s : List ℕ) (k : Kind) (f : ℕ) → ltb f (fields_of k) ≡ false → breaks21 s k f ≡ false
unfolding breaks21
last-bar s k f h = rw (h, bool.and-false)

-- where there is a bar the record has a byte, and so all of the field before it
bar-within : (s : List ℕ) (o : ℕ) → bar_at s o ≡ true → o < length s
unfolding bar_at
bar-within s o e = go (dec_lt o (length s))
  where
    go : Dec (o < length s) → o < length s
    go (yes h) = h
    go (no h) = absurd (omega (arith, eqb-true (get_or s o 0) 124 e, get_or-eq_default s 0 {n = o} (omega arith)))

pub bar-length : (s : List ℕ) (o w : ℕ) → bar_at s (o + w) ≡ true → length (cut s o w) ≡ w
bar-length s o w e = length-take-le w (drop o s) (omega (arith, length-drop o s, bar-within s (o + w) e))

-- BY ITS COLUMN, what is read of a place
module _ (s : List ℕ) (k : Kind) (f : ℕ) (c : Col) (q : col_at k f ≡ c) where
  pub col-form : form_at k f ≡ c.form
  unfolding form_at
  col-form = ap (λ (x : Col). x.form) q

  pub col-must : required (must_at k f) ≡ required c.must
  unfolding must_at
  col-must = ap (λ (x : Col). required x.must) q

  pub col-domain : domain_at k f ≡ c.domain
  unfolding domain_at
  col-domain = ap (λ (x : Col). x.domain) q

  col-width : width_at k f ≡ c.width
  unfolding width_at
  col-width = ap (λ (x : Col). x.width) q

  pub col-back : back_at k f ≡ c.back
  unfolding back_at
  col-back = ap (λ (x : Col). x.back) q

  pub col-ahead : ahead_at k f ≡ c.ahead
  unfolding ahead_at
  col-ahead = ap (λ (x : Col). x.ahead) q

  pub col-text : text_of s k f ≡ cut s (offset_at k f) c.width
  unfolding text_of
  col-text = rw col-width

  pub col-bar : {o : ℕ} → bar_at s o ≡ true → o ≡ offset_at k f + c.width → breaks21 s k f ≡ false
  unfolding breaks21 bar_at
  col-bar h e = rw (col-width, ← e, h, bool.and-false)

  -- a field with no partners, which may be blank, is clean where it is so, or full and not outside its domain
  pub alone-clean : 0 < f → breaks21 s k f ≡ false → required c.must ≡ false → c.back + c.ahead ≡ 0 → is_code c.form ≡ false
      → (b : Bool) → (b ≡ true → full (pick (is_n c.form) Digit Plain) (cut s (offset_at k f) c.width) ≡ true)
      → (b ≡ true → (next : List ℕ) → outside c.form c.domain (cut s (offset_at k f) c.width) next ≡ false)
      → (b || all_of Blank (cut s (offset_at k f) c.width)) ≡ true → Clean s k f
  alone-clean l bar must partners given b whole within h =
      either _ _
      (λ y. full-clean s k f l bar c.form c.domain col-form col-domain (rw col-text (whole y)) (rw given) (rw col-text (within y _)))
      (λ y. blank-clean s k f l bar (col-must ∙ must) (rw col-text y) (partners-none s k f (rw (col-back, col-ahead) partners) ∙ rw col-text y)) h

-- WHAT A TEST TELLS of a record's places below n
pub record Seen (s : List ℕ) (k : Kind) (n : ℕ) (b : Bool) : Type 0 where
  pub some : 0 < n
  pub tells : b ≡ true → Over (Clean s k) 0 n

-- where these are all its places, it has no break
pub seen-fine : (s : List ℕ) (k : Kind) {b : Bool} → Seen s k (fields_of k + 1) b → b ≡ true → (i : ℕ) → record_finding s k i ≡ Ok tt
seen-fine s k h e = record-fine s k (h.tells e)

-- and a test that fails tells nothing
pub seen_none : (s : List ℕ) (k : Kind) → false ≡ true → (i : ℕ) → record_finding s k i ≡ Ok tt
seen_none s k e = absurd (true-false (sym e))

-- the end is place 0
end_clean : (s : List ℕ) (k : Kind) → end_at s (length_of k - 2) ≡ true → Clean s k 0
unfolding breaks20 breaks21 breaks22 breaks23 breaks24 breaks25 not_number not_text missing_in partners_blank outside text_of form_at width_at must_at back_at ahead_at domain_at col_at all_of lawful_text edged_by trimmed trim_to each row end_at
end_clean s k h =
    let e : length_of k - 2 + 1 ≡ length_of k - 1 = omega (arith, sane k) in
    clean s k 0 (rw (ap not (rw e at h))) refl refl refl refl refl

pub seen_end : (s : List ℕ) (k : Kind) {b : Bool} → b ≡ end_at s (length_of k - 2) → Seen s k 1 b
seen_end s k e = record { some = omega arith; tells = λ y. over-one (Clean s k) 0 (end_clean s k (sym e ∙ y)) }
