-- What the code of src/refuse.rt tells of a value, by the form of its field: the tests of specs/Refusals.antt.
-- Assumes nothing.
use Prim.Native.Nat.{ℕ, ◌+◌, ◌^◌, ◌≤◌, ◌<◌}
use mathlib.Core.Bool.{Bool, true, false, not, ◌&&◌, ◌||◌, or-true, or-false}
use mathlib.Core.List.{List, [], ◌∷◌}
use mathlib.Core.Option.{Option}
use mathlib.Core.Path.{◌≡◌, refl, sym, ◌∙◌, ap}
use native.Mathlib.Numerals.{add-one}
use native.Mathlib.Decide.{dec_le}
use native.Mathlib.Omega.{arith}
use types.Run.{hit, miss}
use lib.Dec.{ltb, eqb}
use lib.IntN.{ℤ, pos, nat_abs}
use lib.ListN.{length, get_or, take, get_or-eq_default}
use lib.Seq.{get_or-take}
use borrow.Author.Tests.{lt-ltb, le-ltb, eq-eqb, ne_eqb}
use Rattle.laws.specs.Row.{pick}
use Rattle.laws.specs.Find.{first_of}
use Rattle.laws.specs.Nest.{run}
use Rattle.field.specs.declared.class.Class.TheVariants.{Text}
use Rattle.field.specs.Bytes.{in_class, all_of}
use Rattle.field.specs.Texts.{first_bytes, edged_by, not_given}
use Rattle.field.proofs.DigitLaws.{not-all}
use Rattle.field.proofs.TextLaws.{first-bytes-le}
use Rattle.field.proofs.TextLoops.{length-first, first-at}
use Rattle.record.specs.declared.kind.Kind.{Kind}
use Rattle.record.specs.declared.kind.Form.{Form}
use Rattle.record.specs.declared.kind.Domain.{Domain}
use Rattle.record.specs.declared.kind.Form.TheVariants.{Words, Code, Sign, Number, Size}
use Rattle.record.specs.declared.reason.Break.{Break}
use Rattle.record.specs.Table.{col_at, form_at, width_at, must_at, back_at, ahead_at, domain_at, fields_of, most_fields, required, is_code}
use Rattle.record.specs.Rules.{word_within, number_within}
use Rattle.record.specs.Breaks.{at_place, finding_of}
use Rattle.record.specs.Says.{Said, missing, number, text, coordinate, is_missing}
use Rattle.record.proofs.SaysLaws.{Among, texts}
use Rattle.record.proofs.RuleLaws.{domain-first}
use Rattle.record.proofs.TableLaws.{sane, col-past}
use Rattle.codec.specs.declared.values.Value.{Value}
use Rattle.codec.specs.Values.{text_by, said_by}
use Rattle.codec.specs.Refusals.{too_large, bad_text, bad_said, blank_as, blank_at, missing_as, partners_missing, refuses62, refuses63, refuses64, refuses65, outside_said, sixties, sixty_reasons, value_breaks, values_finding}
use Rattle.codec.specs.machinery.Held.{value_by, text_held, held_at, say_by}
use Rattle.codec.proofs.JoinLaws.{sign-next, partners-within}
use Rattle.codec.proofs.InFields.{heard}

-- FORMS of the last arm of a `match`, by their places in the enum
abbrev pub unsized : List ℕ
unsized = 0 ∷ 1 ∷ 2 ∷ []

abbrev pub unsigned : List ℕ
unsigned = 0 ∷ 1 ∷ 3 ∷ 4 ∷ []

-- a test g that is false where nothing is said
given-says : (g : Said → Bool) (b : Bool) (x : Said) → g missing ≡ false → (b && g x) ≡ g (pick b x missing)
given-says g true x e = refl
given-says g false x e = sym e

-- and of what is said here too
never-given : (g : Said → Bool) (b : Bool) (x : Said) → g missing ≡ false → g x ≡ false → false ≡ g (pick b x missing)
never-given g true x e h = sym h
never-given g false x e h = sym e

never-there : (g : Said → Bool) (b : Bool) (x : Said) → g missing ≡ false → g x ≡ false → false ≡ g (pick b missing x)
never-there g true x e h = sym e
never-there g false x e h = sym h

text-never : (g : Said → Bool) (v : Value) → g missing ≡ false → ((t : List ℕ) → g (text t) ≡ false) → false ≡ g (text_by v)
text-never g v e h = never-there g (eqb v.len 0) (text (first_bytes v.len v.text)) e (h _)

-- what is not given, and no bytes, are missing
not-given : (b : Bool) (x : Said) → is_missing x ≡ false → not b ≡ is_missing (pick b x missing)
not-given true x e = sym e
not-given false x e = refl

not_there : (b : Bool) (x : Said) → is_missing x ≡ false → b ≡ is_missing (pick b missing x)
not_there true x e = refl
not_there false x e = sym e

-- a text is said in the fields of these forms
as-text : (form : Form) (v : Value) → Among texts form → said_by form v ≡ text_by v
as-text Words v h = refl
as-text Code v h = refl
as-text Sign v h = absurd (miss texts 2 tt h)
as-text Number v h = absurd (miss texts 3 tt h)
as-text Size v h = absurd (miss texts 4 tt h)

-- 62
module _ (w : ℕ) (form : Form) (v : Value) where
  pub large-number : {r : Bool} → form ≡ Number → r ≡ ltb v.number (10 ^ w) → (v.given && not r) ≡ too_large w (said_by form v)
  large-number e h = rw (e, h) (given-says (too_large w) v.given (number v.number) refl)

  pub large-size : {r : Bool} {m : ℕ} → form ≡ Size → m ≡ nat_abs v.coordinate → r ≡ ltb m (10 ^ w) → (v.given && not r) ≡ too_large w (said_by form v)
  large-size e q h = rw (e, h, q) (given-says (too_large w) v.given (coordinate v.coordinate) refl)

pub large-none : (w : ℕ) (form : Form) (v : Value) → Among unsized form → false ≡ too_large w (said_by form v)
large-none w Words v h = text-never (too_large w) v refl (λ t. refl)
large-none w Code v h = text-never (too_large w) v refl (λ t. refl)
large-none w Sign v h = refl
large-none w Number v h = absurd (miss unsized 3 tt h)
large-none w Size v h = absurd (miss unsized 4 tt h)

-- 63
module _ (w len : ℕ) (s : List ℕ) where
  pub text-long : w < len → true ≡ bad_text w (first_bytes len s)
  unfolding bad_text
  text-long l = rw (lt-ltb w (length (first_bytes len s)) (rw length-first l))

  -- past the end of the slice stands a 0, which is no text's byte
  pub text-past : length s < len → true ≡ bad_text w (first_bytes len s)
  unfolding bad_text
  text-past l =
      let z : get_or (first_bytes len s) (length s) 0 ≡ 0 = first-at len s (length s) l ∙ get_or-eq_default s 0 {n = length s} (omega arith) in
      let n = not-all Text (first_bytes len s) (length s) (rw length-first l) (ap (in_class Text) z) in
      rw (n, or-true)

  pub text-short :
      {t : List ℕ} {a b c : Bool} → len ≤ w → len ≤ length s → t ≡ take len s → a ≡ all_of Text t → b ≡ edged_by 32 (first_bytes len s)
      → c ≡ edged_by 160 (first_bytes len s) → (not a || b || c) ≡ bad_text w (first_bytes len s)
  unfolding bad_text
  text-short l m e p q r =
      let o : take len s ≡ first_bytes len s = sym (first-bytes-le len s m) in
      rw (p, q, r, e, o, le-ltb w (length (first_bytes len s)) (rw length-first l))

module _ (w : ℕ) (form : Form) (v : Value) where
  pub bad-number : form ≡ Number → false ≡ bad_said w (said_by form v)
  bad-number e = rw e (never-given (bad_said w) v.given (number v.number) refl refl)

  pub bad-size : form ≡ Size → false ≡ bad_said w (said_by form v)
  bad-size e = rw e (never-given (bad_said w) v.given (coordinate v.coordinate) refl refl)

module _ (w len : ℕ) (s : List ℕ) where
  pub bad-none : len ≡ 0 → false ≡ bad_said w (text_by (value_by 0 (pos 0) len s))
  bad-none e = rw (eq-eqb len 0 e)

  pub bad-some : (len ≡ 0 → ⊥) → bad_text w (first_bytes len s) ≡ bad_said w (text_by (value_by 0 (pos 0) len s))
  bad-some n = rw (ne_eqb len 0 n)

-- MISSING
text-gone : (v : Value) → eqb v.len 0 ≡ is_missing (text_by v)
text-gone v = not_there (eqb v.len 0) (text (first_bytes v.len v.text)) refl

texts-unsized : (form : Form) → Among texts form → Among unsized form
texts-unsized Words h = hit unsized 0 tt
texts-unsized Code h = hit unsized 1 tt
texts-unsized Sign h = absurd (miss texts 2 tt h)
texts-unsized Number h = absurd (miss texts 3 tt h)
texts-unsized Size h = absurd (miss texts 4 tt h)

missing-text :
    (form : Form) (a : ℕ) (b : ℤ) (len : ℕ) (s : List ℕ) (next : Said) → Among texts form
    → (eqb len 0 || (is_code form && not_given (first_bytes len s))) ≡ missing_as form (said_by form (value_by a b len s)) next
missing-text Words a b len s next h = or-false (eqb len 0) ∙ text-gone (value_by a b len s)
missing-text Code a b len s next h = go (eqb len 0)
  where
    go : (x : Bool) → (x || not_given (first_bytes len s)) ≡ missing_as Code (pick x missing (text (first_bytes len s))) next
    go true = refl
    go false = refl
missing-text Sign a b len s next h = absurd (miss texts 2 tt h)
missing-text Number a b len s next h = absurd (miss texts 3 tt h)
missing-text Size a b len s next h = absurd (miss texts 4 tt h)

-- told at a sign by the next field's length
by_length : (b : Bool) (x : Said) → is_missing x ≡ false → b ≡ is_missing (pick (not b) x missing)
by_length true x e = refl
by_length false x e = sym e

pub missing-sign : (form : Form) (own : Said) (m : ℕ) (y : ℤ) (next : ℕ) (u : List ℕ) → form ≡ Sign → eqb next 0 ≡ missing_as form own (said_by Size (value_by m y next u))
missing-sign form own m y next u e = rw e (by_length (eqb next 0) (coordinate y) refl)

-- WRITTEN BLANK, by its own length or, of a sign, by the next field's
blank-own : (form : Form) (n : ℕ) (z : ℤ) (len : ℕ) (t : List ℕ) (next : Said) → Among unsigned form → eqb len 0 ≡ blank_as form (said_by form (value_by n z len t)) next
blank-own Words n z len t next h = text-gone (value_by n z len t)
blank-own Code n z len t next h = text-gone (value_by n z len t)
blank-own Sign n z len t next h = absurd (miss unsigned 2 tt h)
blank-own Number n z len t next h = by_length (eqb len 0) (number n) refl
blank-own Size n z len t next h = by_length (eqb len 0) (coordinate z) refl

-- 65: of a text, whose domain is read of its first byte, of a number, and of nothing else
module _ (form : Form) (d : Domain) (v : Value) where
  pub outside-number : {r : Bool} → form ≡ Number → r ≡ number_within d v.number → (v.given && not r) ≡ outside_said d (said_by form v)
  outside-number e h = rw (e, h) (given-says (outside_said d) v.given (number v.number) refl)

  pub outside-size : form ≡ Size → false ≡ outside_said d (said_by form v)
  outside-size e = rw e (never-given (outside_said d) v.given (coordinate v.coordinate) refl refl)

module _ (d : Domain) (len : ℕ) (s : List ℕ) where
  pub outside-gone : len ≡ 0 → false ≡ outside_said d (text_by (value_by 0 (pos 0) len s))
  outside-gone e = rw (eq-eqb len 0 e)

  pub outside-text : {t : List ℕ} {r : Bool} → (len ≡ 0 → ⊥) → t ≡ take len s → r ≡ word_within d t → not r ≡ outside_said d (text_by (value_by 0 (pos 0) len s))
  outside-text {t} n e q =
      let l : 0 < len = omega arith in
      rw (ne_eqb len 0 n, q) (ap not (domain-first d t (first_bytes len s) (rw e (get_or-take len s 0 0 l ∙ sym (first-at len s 0 l)))))

-- A FIELD of the values in hand: its own value and the next
module _ (k : Kind) (at : ℕ → Value) (f : ℕ) where
  next-says : form_at k f ≡ Sign → said_by Size (at (f + 1)) ≡ say_by k at (f + 1)
  unfolding say_by
  next-says e = rw (add-one, sign-next k f e)

  blank-said : blank_as (form_at k f) (said_by (form_at k f) (at f)) (said_by Size (at (f + 1))) ≡ blank_at k (say_by k at) f
  unfolding say_by blank_at
  blank-said = (heard (form_at k f) 0 (said_by (form_at k f) (at f)) _ _ next-says).1

  -- the tests of a field
  pub sixties-said :
      {form : Form} {d : Domain} {w : ℕ} {gone large bad lack unfit : Bool}
      → form ≡ form_at k f → d ≡ domain_at k f → w ≡ width_at k f → gone ≡ missing_as form (said_by form (at f)) (said_by Size (at (f + 1)))
      → large ≡ too_large w (said_by form (at f)) → bad ≡ bad_said w (said_by form (at f)) → lack ≡ (gone && (required (must_at k f) || not (partners_missing k (say_by k at) f)))
      → unfit ≡ outside_said d (said_by form (at f)) → (large ∷ bad ∷ lack ∷ unfit ∷ []) ≡ sixties k (say_by k at) f
  unfolding say_by refuses62 refuses63 refuses64 refuses65
  sixties-said e d w g l b p u =
      let m = (heard (form_at k f) 0 (said_by (form_at k f) (at f)) _ _ next-says).2 in
      rw (l, b, p, u, g, e, d, w, m)

-- of values that the arrays hold
module _ (k : Kind) (n : List ℕ) (z : List ℤ) (l t : List ℕ) (f : ℕ) {form : Form} {len : ℕ} (e : form ≡ form_at k f) where
  pub blank-sign : form ≡ Sign → len ≡ get_or (0 ∷ l) (f + 1) 0 → eqb len 0 ≡ blank_at k (say_by k (held_at n z l t)) f
  unfolding held_at
  blank-sign h q =
      let s : form_at k f ≡ Sign = sym e ∙ h in
      let own : eqb (get_or (0 ∷ l) (f + 1) 0) 0 ≡ blank_as Sign missing (said_by Size (held_at n z l t (f + 1))) = by_length (eqb (get_or (0 ∷ l) (f + 1) 0) 0) (coordinate (get_or (pos 0 ∷ z) (f + 1) (pos 0))) refl in
      let said = rw s at (blank-said k (held_at n z l t) f) in
      ap (λ (x : ℕ). eqb x 0) q ∙ own ∙ said

  pub blank-other : Among unsigned form → len ≡ get_or (0 ∷ l) f 0 → eqb len 0 ≡ blank_at k (say_by k (held_at n z l t)) f
  unfolding held_at
  blank-other h q =
      let own : eqb (get_or (0 ∷ l) f 0) 0 ≡ blank_as form (said_by form (held_at n z l t f)) (said_by Size (held_at n z l t (f + 1))) = blank-own form (get_or (0 ∷ n) f 0) (get_or (pos 0 ∷ z) f (pos 0)) (get_or (0 ∷ l) f 0) (text_held t f) (said_by Size (held_at n z l t (f + 1))) h in
      let said = rw (sym e) at (blank-said k (held_at n z l t) f) in
      ap (λ (x : ℕ). eqb x 0) q ∙ own ∙ said

-- the tests of a field, by what the code asks of each
pub sixties-held :
    (k : Kind) (n : List ℕ) (z : List ℤ) (l t : List ℕ) (f : ℕ) {form : Form} {d : Domain} {w len x next : ℕ} {y : ℤ} {s : List ℕ} {gone large bad lack unfit : Bool}
    → form ≡ form_at k f → d ≡ domain_at k f → w ≡ width_at k f
    → len ≡ get_or (0 ∷ l) f 0 → x ≡ get_or (0 ∷ n) f 0 → y ≡ get_or (pos 0 ∷ z) f (pos 0) → s ≡ text_held t f → next ≡ get_or (0 ∷ l) (f + 1) 0
    → ((a : ℕ) (b : ℤ) (a' : ℕ) (b' : ℤ) (u : List ℕ) → gone ≡ missing_as form (said_by form (value_by a b len s)) (said_by Size (value_by a' b' next u)))
    → ((u : List ℕ) → large ≡ too_large w (said_by form (value_by x y len u)))
    → ((a : ℕ) (b : ℤ) → bad ≡ bad_said w (said_by form (value_by a b len s)))
    → ((a : List ℕ) (b : List ℤ) (u : List ℕ) → lack ≡ (gone && (required (must_at k f) || not (partners_missing k (say_by k (held_at a b l u)) f))))
    → ((b : ℤ) → unfit ≡ outside_said d (said_by form (value_by x b len s)))
    → (large ∷ bad ∷ lack ∷ unfit ∷ []) ≡ sixties k (say_by k (held_at n z l t)) f
unfolding held_at
sixties-held k n z l t f ef ed ew el ex ey es en g a b p u =
    sixties-said k (held_at n z l t) f ef ed ew
    (rw (el, es, en) at (g (get_or (0 ∷ n) f 0) (get_or (pos 0 ∷ z) f (pos 0)) (get_or (0 ∷ n) (f + 1) 0) (get_or (pos 0 ∷ z) (f + 1) (pos 0)) (text_held t (f + 1))))
    (rw (el, ex, ey) at (a (text_held t f)))
    (rw (el, es) at (b (get_or (0 ∷ n) f 0) (get_or (pos 0 ∷ z) f (pos 0))))
    (p n z t)
    (rw (el, ex, es) at (u (get_or (pos 0 ∷ z) f (pos 0))))

-- BY ITS FORM. Whether it lacks is told by the lengths alone
abbrev Lacks : Kind → List ℕ → ℕ → Bool → Bool → Type 0
Lacks k l f gone lack = (a : List ℕ) (b : List ℤ) (u : List ℕ) → lack ≡ (gone && (required (must_at k f) || not (partners_missing k (say_by k (held_at a b l u)) f)))

module _ (k : Kind) (n : List ℕ) (z : List ℤ) (l t : List ℕ) (f : ℕ) (form : Form) (e : form ≡ form_at k f) where
  pub sign-tests : {next : ℕ} {lack : Bool} → form ≡ Sign → next ≡ get_or (0 ∷ l) (f + 1) 0 → Lacks k l f (eqb next 0) lack → (false ∷ false ∷ lack ∷ false ∷ []) ≡ sixties k (say_by k (held_at n z l t)) f
  sign-tests {next} h en p =
      sixties-held k n z l t f e refl refl refl refl refl refl en (λ a b a' b' u. missing-sign form _ a' b' next u h) (λ u. rw h) (λ a b. rw h) p (λ b. rw h)

  pub number-tests :
      {w len x : ℕ} {d : Domain} {fits inside lack : Bool} → form ≡ Number → w ≡ width_at k f → d ≡ domain_at k f → len ≡ get_or (0 ∷ l) f 0 → x ≡ get_or (0 ∷ n) f 0
      → fits ≡ ltb x (10 ^ w) → inside ≡ number_within d x → Lacks k l f (eqb len 0) lack
      → ((not (eqb len 0) && not fits) ∷ false ∷ lack ∷ (not (eqb len 0) && not inside) ∷ []) ≡ sixties k (say_by k (held_at n z l t)) f
  number-tests {w} {len} {x} {d} h ew ed el ex ef ei p =
      sixties-held k n z l t f {gone = eqb len 0} e ed ew el ex refl refl refl
      (λ a b a' b' u. rw h (by_length (eqb len 0) (number a) refl))
      (λ u. large-number w form (value_by x _ len u) h ef)
      (λ a b. bad-number w form (value_by a b len _) h)
      p
      (λ b. outside-number form d (value_by x b len _) h ei)

  pub size-tests :
      {w len m : ℕ} {y : ℤ} {fits : Bool} → form ≡ Size → w ≡ width_at k f → len ≡ get_or (0 ∷ l) f 0 → y ≡ get_or (pos 0 ∷ z) f (pos 0) → m ≡ nat_abs y → fits ≡ ltb m (10 ^ w)
      → ((not (eqb len 0) && not fits) ∷ false ∷ false ∷ false ∷ []) ≡ sixties k (say_by k (held_at n z l t)) f
  size-tests {w} {len} {y = y} h ew el ey em ef =
      sixties-held k n z l t f {gone = false} e refl ew el refl ey refl refl
      (λ a b a' b' u. rw h)
      (λ u. large-size w form (value_by _ y len u) h em ef)
      (λ a b. bad-size w form (value_by a b len _) h)
      (λ a b u. refl)
      (λ b. outside-size form (domain_at k f) (value_by _ b len _) h)

  pub text-tests :
      {w len : ℕ} {s : List ℕ} {d : Domain} {code unsaid bad unfit lack : Bool} → Among texts form → w ≡ width_at k f → d ≡ domain_at k f → len ≡ get_or (0 ∷ l) f 0 → s ≡ text_held t f
      → code ≡ is_code form → unsaid ≡ not_given (first_bytes len s) → bad ≡ bad_said w (text_by (value_by 0 (pos 0) len s)) → unfit ≡ outside_said d (text_by (value_by 0 (pos 0) len s))
      → Lacks k l f (eqb len 0 || (code && unsaid)) lack → (false ∷ bad ∷ lack ∷ unfit ∷ []) ≡ sixties k (say_by k (held_at n z l t)) f
  text-tests {w} {len} {s} {d} {code} {unsaid} h ew ed el es ec eu eb ed' p =
      sixties-held k n z l t f {gone = eqb len 0 || (code && unsaid)} e ed ew el refl refl es refl
      (λ a b a' b' u. rw (ec, eu) (missing-text form a b len s _ h))
      (λ u. large-none w form (value_by _ _ len u) (texts-unsized form h))
      (λ a b. eb ∙ ap (bad_said w) (sym (as-text form (value_by a b len s) h)))
      p
      (λ b. ed' ∙ ap (outside_said d) (sym (as-text form (value_by _ b len s) h)))

-- PARTNERS of a field stand near it
pub partners-near : (k : Kind) (f : ℕ) → (back_at k f ≤ f) × (ahead_at k f ≤ most_fields)
unfolding back_at ahead_at
partners-near k f = go (dec_le f (fields_of k))
  where
    go : Dec (f ≤ fields_of k) → ((col_at k f).back ≤ f) × ((col_at k f).ahead ≤ most_fields)
    go (yes l) = let p = partners-within k f l in (p.0, omega (arith, sane k, p.1))
    go (no m) = rw (col-past k f (omega arith)) (omega arith, omega arith)

-- THE FIRST REFUSAL of a field, and of the values
unfoldable pub in_values : Kind → (ℕ → Said) → ℕ → Option Break
in_values k s f = run (at_place (sixties k s f) sixty_reasons k 0 f)

pub values-is : (k : Kind) (s : ℕ → Said) → values_finding k s ≡ finding_of (first_of (in_values k s) (fields_of k + 1))
unfolding values_finding value_breaks run in_values
values-is k s = refl

pub value-turn : (k : Kind) (s : ℕ → Said) (f : ℕ) → finding_of (run (at_place (sixties k s f) sixty_reasons k 0 f)) ≡ finding_of (in_values k s f)
unfolding in_values
value-turn k s f = refl
