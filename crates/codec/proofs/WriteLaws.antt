-- What the parts of a record hold once they are written: fields by their forms, a record field by field, and the room.
-- Assumes nothing.
use Prim.Native.Nat.{ℕ, zero, suc, ◌+◌, ◌-◌, ◌<◌, ◌≤◌}
use mathlib.Core.Bool.{Bool, true, false, not}
use mathlib.Core.List.{List, [], ◌∷◌, ◌++◌, append_assoc}
use mathlib.Core.Path.{◌≡◌, refl, sym, ap, ap₂, ◌∙◌}
use native.Mathlib.Decide.{dec_lt}
use native.Mathlib.Numerals.{add-one}
use native.Mathlib.Omega.{arith}
use types.Run.{miss}
use lib.Dec.{eqb}
use lib.IntN.{ℤ, pos, nat_abs}
use lib.ListN.{length, get_or, take, drop, set, length-set, length-append, length-take, length-drop}
use lib.Seq.{take_all, take_at, take-suc-set, length-take-le}
use borrow.Author.Tests.{eqb-true, eq-eqb, ne_eqb, lt-ltb, le-ltb}
use borrow.Rule.Slice.PartMut.{put_mid, mid_of, same_len_mid, mid_len}
use Rattle.laws.specs.Row.{pick}
use Rattle.laws.proofs.RowLaws.{length-row}
use Rattle.field.specs.Bytes.{blanks}
use Rattle.field.specs.Digits.{digits}
use Rattle.field.specs.Signs.{sign_byte}
use Rattle.field.specs.Texts.{padded, first_bytes}
use Rattle.field.proofs.TextLaws.{padded-empty}
use Rattle.record.specs.declared.kind.Kind.{Kind}
use Rattle.record.specs.declared.kind.Form.{Form}
use Rattle.record.specs.declared.kind.Form.TheVariants.{Words, Code, Sign, Number, Size}
use Rattle.record.specs.Table.{Which}
use Rattle.std.specs.Prelude.{None, Some}
use Rattle.record.specs.declared.reason.Reason.TheVariants.{NoFile60, ShortRoom61}
use Rattle.record.specs.Breaks.{Finding}
use Rattle.record.specs.Table.{col_at, form_at, width_at, offset_at, fields_of, length_of, which_of}
use Rattle.record.specs.Says.{Said, missing, number, text, coordinate}
use Rattle.record.proofs.SaysLaws.{Among, texts}
use Rattle.record.proofs.TableLaws.{within}
use Rattle.codec.specs.declared.values.Value.{Value}
use Rattle.codec.specs.declared.values.Values.{Values}
use Rattle.codec.specs.Values.{text_by, said_by, value_at, values_say}
use Rattle.codec.specs.machinery.Held.{value_by, text_held, held_at, say_by, SaySame, held_length}
use Rattle.codec.specs.Writes.{number_bytes, text_bytes, bytes_as, field_bytes, ending, joined, fields_bytes, encode}
use Rattle.codec.specs.Refusals.{values_finding}
use Rattle.codec.specs.Calls.{Answer, refused, Writes, answer_of, answer_in, room_after}
use Rattle.codec.proofs.JoinLaws.{sign-next, offset-one, offset-after, offset-last, row_one, joined-next, joined_end, ending-bar, ending-last}
use Rattle.codec.proofs.InFields.{heard}
use Rattle.codec.proofs.In.{encode_same, finding-same}

-- A FIELD, by its form
pub put-none : (w : ℕ) (s : List ℕ) → padded w (first_bytes 0 s) ≡ blanks w
unfolding first_bytes
put-none w s = padded-empty w

pub sign-given : (w b : ℕ) (len : ℕ) (z : ℤ) → (len ≡ 0 → ⊥) → b ≡ sign_byte z
    → padded w (first_bytes 1 (b ∷ [])) ≡ bytes_as Sign w missing (said_by Size (value_by 0 z len []))
unfolding first_bytes bytes_as
sign-given w b len z e h = rw (ne_eqb len 0 e, h)

pub sign-missing : (w len : ℕ) (z : ℤ) → len ≡ 0 → blanks w ≡ bytes_as Sign w missing (said_by Size (value_by 0 z len []))
unfolding bytes_as
sign-missing w len z e = rw (eq-eqb len 0 e)

picked-number : (w n : ℕ) (given : Bool) → pick given (digits w n) (blanks w) ≡ number_bytes w (pick given (number n) missing)
picked-number w n true = refl
picked-number w n false = refl

picked-size : (w : ℕ) (z : ℤ) (given : Bool) → pick given (digits w (nat_abs z)) (blanks w) ≡ number_bytes w (pick given (coordinate z) missing)
picked-size w z true = refl
picked-size w z false = refl

picked-text : (w : ℕ) (v : Value) → padded w (first_bytes v.len v.text) ≡ text_bytes w (text_by v)
picked-text w v = go (eqb v.len 0) refl
  where
    go : (b : Bool) → eqb v.len 0 ≡ b → padded w (first_bytes v.len v.text) ≡ text_bytes w (pick b missing (text (first_bytes v.len v.text)))
    go true e = rw (eqb-true v.len 0 e) (put-none w v.text)
    go false e = refl

module _ (form : Form) (w : ℕ) (v : Value) (next : Said) where
  sign-put : (x : List ℕ) → form ≡ Sign → x ≡ bytes_as Sign w missing next → x ≡ bytes_as form w (said_by form v) next
  sign-put x e h = rw e h

  number_put : form ≡ Number → pick v.given (digits w v.number) (blanks w) ≡ bytes_as form w (said_by form v) next
  unfolding bytes_as
  number_put e = rw e (picked-number w v.number v.given)

  size-put : form ≡ Size → pick v.given (digits w (nat_abs v.coordinate)) (blanks w) ≡ bytes_as form w (said_by form v) next
  unfolding bytes_as
  size-put e = rw e (picked-size w v.coordinate v.given)

text-put : (form : Form) (w : ℕ) (v : Value) (next : Said) → Among texts form
    → padded w (first_bytes v.len v.text) ≡ bytes_as form w (said_by form v) next
unfolding bytes_as
text-put Words w v next h = picked-text w v
text-put Code w v next h = picked-text w v
text-put Sign w v next h = absurd (miss texts 2 tt h)
text-put Number w v next h = absurd (miss texts 3 tt h)
text-put Size w v next h = absurd (miss texts 4 tt h)

-- a field of a record: the next field's value is one of a coordinate where it is looked at
field_put : (k : Kind) (v : ℕ → Value) (f : ℕ)
    → bytes_as (form_at k f) (width_at k f) (said_by (form_at k f) (v f)) (said_by Size (v (f + 1))) ≡ field_bytes k (say_by k v) f
unfolding field_bytes say_by
field_put k v f =
    (heard (form_at k f) (width_at k f) (said_by (form_at k f) (v f)) _ _
    (λ e. ap (λ (x : Form). said_by x (v (f + 1))) (sym (ap (form_at k) (add-one f) ∙ sign-next k f e)))).0

-- and one of which the arrays hold the value
module _ (n : List ℕ) (z : List ℤ) (l t : List ℕ) (f : ℕ) (form : Form) (w : ℕ) where
  pub sign-held : {len : ℕ} {y : ℤ} (own : Value) (x : List ℕ) → form ≡ Sign → len ≡ get_or (0 ∷ l) f 0 → y ≡ get_or (pos 0 ∷ z) f (pos 0)
      → x ≡ bytes_as Sign w missing (said_by Size (value_by 0 y len [])) → x ≡ bytes_as form w (said_by form own) (said_by Size (held_at n z l t f))
  unfolding held_at
  sign-held own x h el ey ex = sign-put form w own (said_by Size (held_at n z l t f)) x h (rw (el, ey) at ex)

  module _ (next : Said) where
    pub number-held : {len x : ℕ} → form ≡ Number → len ≡ get_or (0 ∷ l) f 0 → x ≡ get_or (0 ∷ n) f 0
        → pick (not (eqb len 0)) (digits w x) (blanks w) ≡ bytes_as form w (said_by form (held_at n z l t f)) next
    unfolding held_at
    number-held h el ex = rw (el, ex) (number_put form w (held_at n z l t f) next h)

    pub size-held : {len m : ℕ} {y : ℤ} → form ≡ Size → len ≡ get_or (0 ∷ l) f 0 → y ≡ get_or (pos 0 ∷ z) f (pos 0) → m ≡ nat_abs y
        → pick (not (eqb len 0)) (digits w m) (blanks w) ≡ bytes_as form w (said_by form (held_at n z l t f)) next
    unfolding held_at
    size-held h el ey em = rw (em, el, ey) (size-put form w (held_at n z l t f) next h)

    pub text-held : {len : ℕ} {s : List ℕ} → Among texts form → len ≡ get_or (0 ∷ l) f 0 → s ≡ text_held t f
        → padded w (first_bytes len s) ≡ bytes_as form w (said_by form (held_at n z l t f)) next
    unfolding held_at
    text-held h el es = rw (el, es) (text-put form w (held_at n z l t f) next h)

-- ys are put at a place, and a byte after them: what stands up to there
module _ (at w : ℕ) (buf ys : List ℕ) (e : ℕ) (h : at + w < length buf) (l : length ys ≡ length (mid_of at (at + w - at) buf)) where
  part-wide : length (mid_of at (at + w - at) buf) ≡ w
  part-wide = mid_len at (at + w) buf (omega arith) ∙ omega arith

  put_then : take (at + w + 1) (set (put_mid at (at + w - at) buf ys) (at + w) e) ≡ take at buf ++ (ys ++ (e ∷ []))
  put_then =
      let n : length (put_mid at (at + w - at) buf ys) ≡ length buf = same_len_mid at (at + w - at) buf ys l in
      let p : length (take at buf ++ ys) ≡ at + w = simp (length-append, length-take) (omega (arith, part-wide)) in
      let rest = drop (at + w - at) (drop at buf) in
      rw (add-one, take-suc-set (put_mid at (at + w - at) buf ys) (at + w) e (omega arith))
      (ap (λ (x : List ℕ). x ++ (e ∷ [])) (ap (take (at + w)) (sym (append_assoc (take at buf) ys rest)) ∙ take_at (take at buf ++ ys) rest (at + w) p)
      ∙ append_assoc (take at buf) ys (e ∷ []))

-- and of a field, by what the code asks
pub next-put : (k : Kind) (v : ℕ → Value) (f at w : ℕ) (buf ys : List ℕ) (form : Form) (n e : ℕ)
    → w ≡ width_at k f → form ≡ form_at k f → n ≡ fields_of k → at + width_at k f < length buf
    → length ys ≡ length (mid_of at (at + w - at) buf)
    → ys ≡ bytes_as form (length (mid_of at (at + w - at) buf)) (said_by form (v f)) (said_by Size (v (f + 1)))
    → e ≡ pick (eqb f n) 13 124
    → take (at + w + 1) (set (put_mid at (at + w - at) buf ys) (at + w) e)
    ≡ take at buf ++ (field_bytes k (say_by k v) f ++ (pick (eqb f (fields_of k)) 13 124 ∷ []))
next-put k v f at w buf ys form n e ew ef en h l eq ee =
    let m : at + w < length buf = omega arith in
    let q : ys ≡ field_bytes k (say_by k v) f = eq ∙ rw (part-wide at w buf ys e m l, ew, ef) (field_put k v f) in
    let b : e ≡ pick (eqb f (fields_of k)) 13 124 = ee ∙ rw en refl in
    put_then at w buf ys e m l ∙ ap₂ (λ (s : List ℕ) (c : ℕ). take at buf ++ (s ++ (c ∷ []))) q b

-- A RECORD: f fields are written, and the place is where the next begins
pub record Filling (k : Kind) (v : ℕ → Said) (buf : List ℕ) (at f : ℕ) : Type 0 where
  pub few : f ≤ fields_of k
  pub whole : length buf ≡ length_of k
  pub place : at ≡ offset_at k (suc f)
  pub written : take at buf ++ joined (drop f (fields_bytes k v)) ≡ encode k v

pub filling-start : (k : Kind) (v : ℕ → Said) (buf : List ℕ) → length buf ≡ length_of k → Filling k v buf 0 0
unfolding encode
filling-start k v buf e = record { few = omega arith; whole = e; place = sym (offset-one k); written = refl }

module _ {k : Kind} {v : ℕ → Said} {buf : List ℕ} {at f : ℕ} (h : Filling k v buf at f) where
  -- the next field has its place, and a byte is left
  pub fits-here : at + width_at k (f + 1) < length buf
  fits-here = rw add-one (omega (arith, h.place, h.whole, within k (suc f)))

  -- what it adds
  next-joined : f < fields_of k → joined (drop f (fields_bytes k v))
      ≡ field_bytes k v (f + 1) ++ (pick (eqb (f + 1) (fields_of k)) 13 124 ∷ joined (drop (f + 1) (fields_bytes k v)))
  next-joined l =
      let n : length (fields_bytes k v) ≡ fields_of k = length-row _ (fields_of k) in
      rw (add-one, joined-next (fields_bytes k v) f (omega arith), row_one (field_bytes k v) (fields_of k) f l, after (dec_lt (suc f) (fields_of k)))
    where
      after : Dec (suc f < fields_of k) → ending (drop (suc f) (fields_bytes k v)) ≡ pick (eqb (suc f) (fields_of k)) 13 124
      after (yes m) = rw (ne_eqb (suc f) (fields_of k) (omega arith)) (ending-bar (fields_bytes k v) (suc f) (rw length-row m))
      after (no m) = rw (eq-eqb (suc f) (fields_of k) (omega arith)) (ending-last (fields_bytes k v) (suc f) (rw length-row (omega arith)))

  pub filling-more : (at' : ℕ) (buf' : List ℕ) → f < fields_of k → at' ≡ at + width_at k (f + 1) + 1 → length buf' ≡ length buf
      → take at' buf' ≡ take at buf ++ (field_bytes k v (f + 1) ++ (pick (eqb (f + 1) (fields_of k)) 13 124 ∷ []))
      → Filling k v buf' at' (f + 1)
  filling-more at' buf' l p n e =
      let b : ℕ = pick (eqb (f + 1) (fields_of k)) 13 124 in
      let rest = joined (drop (f + 1) (fields_bytes k v)) in
      record {
        few = omega arith;
        whole = n ∙ h.whole;
        place = rw add-one (omega (arith, h.place, offset-after k f l, ap (width_at k) (add-one f)));
        written =
            ap (λ (s : List ℕ). s ++ rest) e
            ∙ append_assoc (take at buf) (field_bytes k v (f + 1) ++ (b ∷ [])) rest
            ∙ ap (λ (s : List ℕ). take at buf ++ s) (append_assoc (field_bytes k v (f + 1)) (b ∷ []) rest ∙ sym (next-joined l))
            ∙ h.written;
      }

  module _ (l : fields_of k ≤ f) where
    pub last-place : at + 1 ≡ length buf
    last-place =
        let e : f ≡ fields_of k = omega (arith, h.few) in
        omega (arith, h.place, h.whole, offset-last k, ap (λ (n : ℕ). offset_at k (suc n)) e)

    pub all-written : set buf at 10 ≡ encode k v
    all-written =
        let w : length (set buf at 10) ≡ length buf = length-set buf at 10 in
        let n : length (fields_bytes k v) ≡ fields_of k = length-row _ (fields_of k) in
        sym (take_all (suc at) (set buf at 10) (omega (arith, last-place)))
        ∙ take-suc-set buf at 10 (omega (arith, last-place))
        ∙ ap (λ (s : List ℕ). take at buf ++ s) (sym (joined_end (fields_bytes k v) f (omega arith)))
        ∙ h.written

-- VALUES LAID INTO ARRAYS: the length of one that is no text
abbrev wordless : List ℕ
wordless = 2 ∷ 3 ∷ 4 ∷ []

length-is : (form : Form) (v : Value) → Among wordless form → pick v.given 1 0 ≡ held_length form v
length-is Words v h = absurd (miss wordless 0 tt h)
length-is Code v h = absurd (miss wordless 1 tt h)
length-is Sign v h = refl
length-is Number v h = refl
length-is Size v h = refl

pub length-given : (form : Form) (v : Value) → Among wordless form → v.given ≡ true → 1 ≡ held_length form v
length-given form v h e = ap (λ (b : Bool). pick b 1 0) (sym e) ∙ length-is form v h

pub length-missing : (form : Form) (v : Value) → Among wordless form → v.given ≡ false → 0 ≡ held_length form v
length-missing form v h e = ap (λ (b : Bool). pick b 1 0) (sym e) ∙ length-is form v h

-- THE ROOM
-- the first n bytes of a list, and the list with others put for them
module _ (n : ℕ) (zs : List ℕ) (h : n ≤ length zs) where
  pub front_length : n ≡ length (take n zs)
  front_length = sym (length-take-le n zs h)

  pub put-length : (xs : List ℕ) → length xs ≡ length (take n zs) → length zs ≡ length (xs ++ drop n zs)
  put-length xs e = simp (length-append, length-drop) (omega (arith, front_length))

-- n is the record's length, and the values in hand say what v says
module _ (k : Kind) (said : ℕ → Said) (v : Values) (same : SaySame k said (values_say k v)) (nothing : said 0 ≡ missing) (room : List ℕ) (n : ℕ) (e : n ≡ length_of k) where
  everywhere : (f : ℕ) → f ≤ fields_of k → said f ≡ values_say k v f
  unfolding values_say value_at form_at col_at
  everywhere zero l = nothing
  everywhere (suc f) l = same (suc f) (omega arith) l

  pub answer-short : length room < n → refused ShortRoom61 0 ≡ answer_in k v (length room)
  unfolding answer_in
  answer-short l = rw (← e, lt-ltb (length room) n l)

  module _ (l : n ≤ length room) where
    pub answer-found : (x : Finding) → x ≡ values_finding k said → answer_of x ≡ answer_in k v (length room)
    unfolding answer_in
    answer-found x h = rw (← e, le-ltb (length room) n l, ← finding-same k said (values_say k v) everywhere, ← h)

    pub room-put : (xs : List ℕ) → xs ≡ encode k said → xs ++ drop n room ≡ encode k (values_say k v) ++ drop (length_of k) room
    room-put xs ex = ap₂ (λ (s : List ℕ) (m : ℕ). s ++ drop m room) (ex ∙ encode_same k said (values_say k v) everywhere) e

-- what the arrays hold says nothing at place 0
pub held-nothing : (k : Kind) (n : List ℕ) (z : List ℤ) (l t : List ℕ) → say_by k (held_at n z l t) 0 ≡ missing
unfolding say_by held_at form_at col_at
held-nothing k n z l t = refl

-- the file
module _ (file : ℕ) (v : Values) (room : List ℕ) (w : Which) (e : w ≡ which_of file) where
  pub writes-none : w ≡ None → Writes file v room (refused NoFile60 0) room
  writes-none h = record { says = rw (← e, h); leaves = rw (← e, h) }

  pub writes-file : (k : Kind) (a : Answer) (after : List ℕ) → w ≡ Some k → (a ≡ answer_in k v (length room)) × (after ≡ room_after k v room a)
      → Writes file v room a after
  writes-file k a after h p = record { says = rw (← e, h) p.0; leaves = rw (← e, h) p.1 }
