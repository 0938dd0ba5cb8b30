-- Fields joined to a record and cut from it again, and facts of the table of fields.
-- Assumes nothing.
use Prim.Native.Nat.{ℕ, zero, suc, ◌+◌, ◌-◌, ◌<◌, ◌≤◌}
use mathlib.Core.Path.{◌≡◌, refl, sym, ap, ◌∙◌}
use mathlib.Core.Bool.{Bool, true, not, ◌||◌}
use mathlib.Core.List.{List, [], ◌∷◌, ◌++◌}
use native.Mathlib.Nat.{not-suc-le-zero}
use native.Mathlib.Numerals.{add-one}
use native.Mathlib.Decide.{dec_le}
use native.Mathlib.Omega.{arith}
use lib.Dec.{leb, eqb}
use lib.IntN.{nat_abs}
use lib.ListN.{length, get_or, take, drop, length-replicate, length-drop, drop_of_length-le}
use lib.Seq.{drop-cons, drop-drop, drop-append-add, take_at, get_or_at, get_or-drop}
use borrow.Author.Tests.{eqb-true, leb-true, eq-eqb, le-leb, lt-leb}
use Rattle.laws.specs.Row.{row, pick, each}
use Rattle.laws.proofs.RowLaws.{row_at}
use Rattle.field.specs.Signs.{sign_byte}
use Rattle.field.proofs.DigitLaws.{length_digits}
use Rattle.field.proofs.TextLoops.{length-padded}
use Rattle.record.specs.declared.kind.Kind.{Kind}
use Rattle.record.specs.declared.kind.Form.{Form}
use Rattle.record.specs.declared.kind.Form.TheVariants.{Words, Code, Sign, Number, Size}
use Rattle.record.specs.Table.{Col, room_in, col_at, form_at, width_at, back_at, ahead_at, must_at, offset_at, fields_of, length_of, required}
use Rattle.record.specs.machinery.Packed.{form_digit, form_of}
use Rattle.record.specs.Cut.{text_of}
use Rattle.record.specs.Says.{Said, missing, number, text, coordinate}
use Rattle.record.proofs.TableLaws.{each-get_d, sane, col-past, offset-next, offset-end, everywhere, every-place}
use Rattle.record.proofs.PackedLaws.{form-digit, one-picked}
use Rattle.codec.specs.Writes.{number_bytes, sign_bytes, text_bytes, bytes_as, field_bytes, ending, joined}

-- THE TABLE
-- tests of places, where a guard holds
module _ (guard : Kind → ℕ → Bool) (tests : Kind → ℕ → List Bool) where
  abbrev passing : Kind → ℕ → Bool
  passing k f = not (guard k f) || each (λ b. b) (tests k f)

  passed : everywhere passing ≡ true → (k : Kind) (f : ℕ) → f < 16 → guard k f ≡ true → (i : ℕ) → get_or (tests k f) i true ≡ true
  passed e k f l h = each-get_d (λ b. b) (tests k f) true refl (rw h at (every-place passing e k f l))

-- a form, by its number; past the last field every form is Words
is_form : Form → Form → Bool
is_form x y = eqb (form_digit x) (form_digit y)

form-is : (x y : Form) → is_form x y ≡ true → x ≡ y
unfolding is_form
form-is x y e = sym (form-digit x) ∙ ap form_of (eqb-true (form_digit x) (form_digit y) e) ∙ form-digit y

is-form : (x y : Form) → x ≡ y → is_form x y ≡ true
unfolding is_form
is-form x y e = eq-eqb (form_digit x) (form_digit y) (ap form_digit e)

form-past : (k : Kind) (f : ℕ) (x : Form) → form_at k f ≡ x → 0 < form_digit x → f ≤ fields_of k
unfolding form_at
form-past k f x e n = go (dec_le f (fields_of k))
  where
    go : Dec (f ≤ fields_of k) → f ≤ fields_of k
    go (yes l) = l
    go (no m) = let z : form_digit x ≡ 0 = ap form_digit (sym e ∙ ap (λ (c : Col). c.form) (col-past k f (omega arith))) in omega arith

-- a field has a width, and its partners are fields
field_tests : Kind → ℕ → List Bool
field_tests k f = (leb f 0 || leb 1 (width_at k f)) ∷ leb (back_at k f) f ∷ leb (f + ahead_at k f) (fields_of k) ∷ []

field-test : (k : Kind) (f : ℕ) → f ≤ fields_of k → (i : ℕ) → get_or (field_tests k f) i true ≡ true
unfolding everywhere each row col_at width_at back_at ahead_at field_tests
field-test k f l i = passed (λ j g. leb g (fields_of j)) field_tests refl k f (omega (arith, sane k)) (le-leb f (fields_of k) l) i

-- a sign is one byte; its number is next, with the same partners, and may be missing like it
sign_tests : Kind → ℕ → List Bool
sign_tests k f =
    leb 1 f ∷ eqb (width_at k f) 1 ∷ is_form (form_at k (suc f)) Size ∷ eqb (back_at k (suc f)) (suc (back_at k f))
    ∷ eqb (ahead_at k f) (suc (ahead_at k (suc f))) ∷ eqb (pick (required (must_at k (suc f))) 1 0) (pick (required (must_at k f)) 1 0) ∷ []

sign-test : (k : Kind) (f : ℕ) → form_at k f ≡ Sign → (i : ℕ) → get_or (sign_tests k f) i true ≡ true
unfolding everywhere each row col_at form_at width_at back_at ahead_at must_at is_form sign_tests
sign-test k f e i =
    let l = form-past k f Sign e (omega arith) in
    passed (λ j g. is_form (form_at j g) Sign) sign_tests refl k f (omega (arith, sane k)) (is-form (form_at k f) Sign e) i

-- the field before a number of a coordinate is its sign
pub size-before : (k : Kind) (f : ℕ) → form_at k (suc f) ≡ Size → form_at k f ≡ Sign
unfolding everywhere each row col_at form_at is_form
size-before k f e =
    let l = form-past k (suc f) Size e (omega arith) in
    form-is (form_at k f) Sign (passed (λ j g. is_form (form_at j (suc g)) Size) (λ j g. is_form (form_at j g) Sign ∷ []) refl k f (omega (arith, sane k)) (is-form (form_at k (suc f)) Size e) 0)

-- each field has a width
pub wide : (k : Kind) (f : ℕ) → 1 ≤ f → f ≤ fields_of k → 0 < width_at k f
unfolding field_tests
wide k f a b = leb-true 1 (width_at k f) (rw (lt-leb f 0) at (field-test k f b 0))

-- the partners of a field are fields
pub partners-within : (k : Kind) (f : ℕ) → f ≤ fields_of k → (back_at k f ≤ f) × (f + ahead_at k f ≤ fields_of k)
unfolding field_tests
partners-within k f h = (leb-true _ _ (field-test k f h 1), leb-true _ _ (field-test k f h 2))

module _ (k : Kind) (f : ℕ) (e : form_at k f ≡ Sign) where
  -- a sign is one byte wide, the next field is its number, and each is a partner of the other
  pub sign-wide : width_at k f ≡ 1
  unfolding sign_tests
  sign-wide = eqb-true _ _ (sign-test k f e 1)

  pub sign-next : form_at k (suc f) ≡ Size
  unfolding sign_tests
  sign-next = form-is _ _ (sign-test k f e 2)

  pub sign-field : (1 ≤ f) × (suc f ≤ fields_of k)
  unfolding sign_tests
  sign-field = (leb-true _ _ (sign-test k f e 0), form-past k (suc f) Size sign-next (omega arith))

  -- sign and number have the same partners, and both may be missing or neither
  pub pair-partners : (back_at k (suc f) ≡ suc (back_at k f)) × (ahead_at k f ≡ suc (ahead_at k (suc f))) × (required (must_at k (suc f)) ≡ required (must_at k f))
  unfolding sign_tests
  pair-partners = (
    eqb-true _ _ (sign-test k f e 3),
    eqb-true _ _ (sign-test k f e 4),
    same-must (required (must_at k (suc f))) (required (must_at k f)) (eqb-true _ _ (sign-test k f e 5)),
  )
    where
      same-must : (a b : Bool) → ◌≡◌ {A = ℕ} (pick a 1 0) (pick b 1 0) → a ≡ b
      same-must a b q = sym (one-picked a) ∙ ap (λ (n : ℕ). eqb n 1) q ∙ one-picked b

  pub sign-partner : (back_at k f ≤ f) × (1 ≤ ahead_at k f)
  sign-partner = ((partners-within k f (omega (arith, sign-field))).0, omega (arith, pair-partners))

-- JOINED AND CUT
length-text : (w : ℕ) (x : Said) → length (text_bytes w x) ≡ w
length-text w missing = length-replicate w 32
length-text w (number n) = length-replicate w 32
length-text w (text t) = length-padded w t
length-text w (coordinate z) = length-replicate w 32

length-sign : (w : ℕ) (x : Said) → length (sign_bytes w x) ≡ w
length-sign w missing = length-replicate w 32
length-sign w (number n) = length-replicate w 32
length-sign w (text t) = length-replicate w 32
length-sign w (coordinate z) = length-padded w (sign_byte z ∷ [])

length-number : (w : ℕ) (x : Said) → length (number_bytes w x) ≡ w
length-number w missing = length-replicate w 32
length-number w (number n) = length_digits w n
length-number w (text t) = length-replicate w 32
length-number w (coordinate z) = length_digits w (nat_abs z)

pub length-bytes : (x : Form) (w : ℕ) (own next : Said) → length (bytes_as x w own next) ≡ w
unfolding bytes_as
length-bytes Words w own next = length-text w own
length-bytes Code w own next = length-text w own
length-bytes Sign w own next = length-sign w next
length-bytes Number w own next = length-number w own
length-bytes Size w own next = length-number w own

pub length-field : (k : Kind) (v : ℕ → Said) (f : ℕ) → length (field_bytes k v f) ≡ width_at k f
unfolding field_bytes
length-field k v f = length-bytes (form_at k f) (width_at k f) (v f) (v (f + 1))

-- PLACES: the first field begins at 0, the next one byte past its end; after the last field stand two bytes
room-some : (w : ℕ) → 0 < w → room_in w ≡ w + 1
room-some zero h = absurd (not-suc-le-zero h)
room-some (suc w) h = omega arith

module _ (k : Kind) where
  pub offset-one : offset_at k 1 ≡ 0
  unfolding offset_at col_at
  offset-one = offset-next k 0

  pub offset-after : (j : ℕ) → j < fields_of k → offset_at k (suc (suc j)) ≡ offset_at k (suc j) + width_at k (suc j) + 1
  unfolding width_at
  offset-after j l = omega (arith, offset-next k (suc j), room-some (width_at k (suc j)) (wide k (suc j) (omega arith) l))

  pub offset-last : offset_at k (suc (fields_of k)) + 1 ≡ length_of k
  offset-last = offset-end k (suc (fields_of k)) (omega arith)

  pub some-field : 0 < fields_of k
  some-field = go (fields_of k) refl
    where
      go : (n : ℕ) → fields_of k ≡ n → 0 < n
      go zero e = omega (arith, sane k, offset-one, offset-last, ap (λ (m : ℕ). offset_at k (suc m)) e)
      go (suc n) e = omega arith

  -- the last field, counted from 0, ends two bytes before the end
  abbrev pub last : ℕ
  last = fields_of k - 1

  last-field : suc last ≡ fields_of k
  last-field = omega (arith, some-field)

  pub last_end : offset_at k (suc last) + width_at k (suc last) ≡ length_of k - 2
  last_end = omega (arith, offset-after last (omega (arith, some-field)), offset-last, ap (λ (m : ℕ). offset_at k (suc m)) last-field)

-- PARTS, joined: from a part on, and what stands after it
module _ (ts : List (List ℕ)) (j : ℕ) where
  pub joined-next : j < length ts → joined (drop j ts) ≡ get_or ts j [] ++ (ending (drop (suc j) ts) ∷ joined (drop (suc j) ts))
  unfolding joined
  joined-next l = ap joined (drop-cons ts j [] l)

  pub joined_end : length ts ≤ j → joined (drop j ts) ≡ 10 ∷ []
  unfolding joined
  joined_end l = ap joined (drop_of_length-le ts {i = j} l)

  pub ending-bar : j < length ts → ending (drop j ts) ≡ 124
  ending-bar l = ap ending (drop-cons ts j [] l)

  pub ending-last : length ts ≤ j → ending (drop j ts) ≡ 13
  ending-last l = ap ending (drop_of_length-le ts {i = j} l)

-- a row of fields, which are counted from 1
pub row_one : (g : ℕ → List ℕ) (n j : ℕ) → j < n → get_or (row (λ i. g (i + 1)) n) j [] ≡ g (suc j)
row_one g n j l = row_at (λ i. g (i + 1)) n [] l ∙ ap g (add-one j)

-- parts that are as wide as the fields of a kind: joined, each stands where its field does
pub record Parts (k : Kind) (ts : List (List ℕ)) : Type 0 where
  pub count : length ts ≡ fields_of k
  pub sized : (j : ℕ) → j < fields_of k → length (get_or ts j []) ≡ width_at k (suc j)

module _ (k : Kind) (ts : List (List ℕ)) (p : Parts k ts) where
  joined-from : (j : ℕ) → j ≤ fields_of k → drop (offset_at k (suc j)) (joined ts) ≡ joined (drop j ts)
  joined-from zero l = ap (λ (n : ℕ). drop n (joined ts)) (offset-one k)
  joined-from (suc j) l =
      let w = width_at k (suc j) in
      let n : offset_at k (suc (suc j)) ≡ offset_at k (suc j) + (w + 1) = omega (arith, offset-after k j l) in
      let q : w + 1 ≡ length (get_or ts j []) + 1 = omega (arith, p.sized j l) in
      ap (λ (o : ℕ). drop o (joined ts)) n
      ∙ sym (drop-drop (w + 1) (offset_at k (suc j)) (joined ts))
      ∙ ap (drop (w + 1)) (joined-from j (omega arith) ∙ joined-next ts j (omega (arith, p.count)))
      ∙ ap (λ (o : ℕ). drop o (get_or ts j [] ++ (ending (drop (suc j) ts) ∷ joined (drop (suc j) ts)))) q
      ∙ drop-append-add (get_or ts j []) (ending (drop (suc j) ts) ∷ joined (drop (suc j) ts)) 1

  module _ (j : ℕ) (l : j < fields_of k) where
    from-part : drop (offset_at k (suc j)) (joined ts) ≡ get_or ts j [] ++ (ending (drop (suc j) ts) ∷ joined (drop (suc j) ts))
    from-part = joined-from j (omega arith) ∙ joined-next ts j (omega (arith, p.count))

    pub text-joined : text_of (joined ts) k (suc j) ≡ get_or ts j []
    unfolding text_of
    text-joined = ap (take (width_at k (suc j))) from-part ∙ take_at _ _ (width_at k (suc j)) (p.sized j l)

    pub after-joined : get_or (joined ts) (offset_at k (suc j) + width_at k (suc j)) 0 ≡ ending (drop (suc j) ts)
    after-joined =
        sym (get_or-drop (offset_at k (suc j)) (joined ts) (width_at k (suc j)) 0)
        ∙ ap (λ (s : List ℕ). get_or s (width_at k (suc j)) 0) from-part
        ∙ get_or_at (get_or ts j []) _ _ 0 (width_at k (suc j)) (p.sized j l)

  end-from : drop (offset_at k (suc (fields_of k))) (joined ts) ≡ 10 ∷ []
  end-from = joined-from (fields_of k) (omega arith) ∙ joined_end ts (fields_of k) (omega (arith, p.count))

  pub length-joined : length (joined ts) ≡ length_of k
  length-joined = omega (arith, offset-last k, length-drop (offset_at k (suc (fields_of k))) (joined ts), ap length end-from)

  pub last-joined : get_or (joined ts) (length_of k - 1) 0 ≡ 10
  last-joined =
      let n : length_of k - 1 ≡ offset_at k (suc (fields_of k)) + 0 = omega (arith, offset-last k) in
      ap (λ (i : ℕ). get_or (joined ts) i 0) n ∙ sym (get_or-drop (offset_at k (suc (fields_of k))) (joined ts) 0 0) ∙ ap (λ (s : List ℕ). get_or s 0 0) end-from
