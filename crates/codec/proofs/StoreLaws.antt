-- Memory for a record's values filled field by field, and what it then holds.
-- Assumes nothing.
use Prim.Native.Nat.{ℕ, zero, suc, ◌+◌, ◌*◌, ◌-◌, ◌<◌, ◌≤◌}
use mathlib.Core.Bool.{Bool, true, false, not}
use mathlib.Core.List.{List, ◌∷◌, ◌++◌, append_assoc}
use mathlib.Core.Path.{◌≡◌, refl, sym, ap, ap₂, subst, ◌∙◌}
use mathlib.Core.Logic.{⊎_elim}
use native.Mathlib.Nat.{eq-or-lt_of_le, le_of_suc-le-suc, not-suc-le-zero}
use native.Mathlib.Numerals.{add-one}
use native.Mathlib.Omega.{arith}
use lib.Dec.{eqb}
use lib.IntN.{ℤ, pos}
use lib.ListN.{length, get_or, take, drop, set, take-append-drop, length-append, get_or-append}
use lib.Seq.{drop-drop, take_at, drop_at, take_all, length-take-le}
use borrow.Rule.Slice.PartMut.{put_mid, mid_of, same_len_mid, mid_len, drop_put}
use Rattle.laws.specs.Row.{pick, row, strung}
use Rattle.laws.proofs.RowLaws.{length-row, row_at}
use Rattle.laws.proofs.PutLaws.{Putting, putting-start, putting-more, putting-end}
use Rattle.field.specs.Bytes.{blanks}
use Rattle.field.specs.Texts.{padded, first_bytes}
use Rattle.field.proofs.TextLaws.{first-bytes-le}
use Rattle.field.proofs.TextLoops.{length-padded}
use Rattle.record.specs.declared.kind.Kind.{Kind}
use Rattle.record.specs.declared.kind.Form.{Form}
use Rattle.record.specs.declared.kind.Form.TheVariants.{Words, Code, Sign, Number, Size}
use Rattle.record.specs.Table.{form_at, most_fields, widest}
use Rattle.record.specs.Says.{Said, missing, number, coordinate}
use Rattle.record.proofs.TableLaws.{sane}
use Rattle.codec.specs.declared.values.Value.{Value}
use Rattle.codec.specs.declared.values.Values.{Values}
use Rattle.codec.specs.Values.{said_by, value_at, values_say}
use Rattle.codec.specs.machinery.Held.{value_by, text_held, held_at, say_by, SaySame, held_length}

-- TEXTS as long as the widest field, one after the other
pub record Stringing (g : ℕ → List ℕ) (before out : List ℕ) (i : ℕ) : Type 0 where
  pub long : length out ≡ length before
  pub put : take (widest * i) out ≡ strung g i
  pub rest : drop (widest * i) out ≡ drop (widest * i) before

module _ (g : ℕ → List ℕ) (before : List ℕ) where
  pub stringing-start : Stringing g before before 0
  unfolding strung
  stringing-start = record { long = refl; put = refl; rest = refl }

  pub stringing-more :
      {out ys : List ℕ} {i : ℕ} → widest * i + widest ≤ length before → Stringing g before out i → length ys ≡ length (mid_of (widest * i) (widest * i + widest - widest * i) out)
      → ys ≡ g i → Stringing g before (put_mid (widest * i) (widest * i + widest - widest * i) out ys) (i + 1)
  unfolding strung
  stringing-more {out} {ys} {i} l p e h =
      let w : length ys ≡ widest = e ∙ mid_len (widest * i) (widest * i + widest) out (omega (arith, p.long)) ∙ omega arith in
      let q : widest * (i + 1) ≡ widest * i + widest = omega arith in
      let tail = drop (widest * i + widest - widest * i) (drop (widest * i) out) in
      let wide : length (take (widest * i) out ++ ys) ≡ widest * i + widest = simp (length-append, length-take-le (widest * i) out (omega (arith, p.long))) (omega arith) in
      record {
        long = same_len_mid (widest * i) (widest * i + widest - widest * i) out ys e ∙ p.long;
        put =
            rw q
            (ap (take (widest * i + widest)) (sym (append_assoc (take (widest * i) out) ys tail)) ∙ take_at (take (widest * i) out ++ ys) tail (widest * i + widest) wide
            ∙ rw add-one (ap₂ (λ (a b : List ℕ). a ++ b) p.put h));
        rest = rw q (drop_put (widest * i) (widest * i + widest) out ys (omega arith) (omega (arith, p.long)) (w ∙ omega arith) ∙ sym (drop-drop widest (widest * i) out) ∙ ap (drop widest) p.rest ∙ drop-drop widest (widest * i) before);
      }

  pub stringing-end : {out : List ℕ} {i n : ℕ} → i ≡ n → Stringing g before out i → out ≡ strung g n ++ drop (widest * n) before
  stringing-end {out} {i} {n} e p = sym (take-append-drop (widest * i) out) ∙ ap₂ (λ (a b : List ℕ). a ++ b) p.put p.rest ∙ ap (λ (m : ℕ). strung g m ++ drop (widest * m) before) e

-- each where it was put
strung-long : (g : ℕ → List ℕ) (n : ℕ) → ((j : ℕ) → j < n → length (g j) ≡ widest) → length (strung g n) ≡ widest * n
unfolding strung
strung-long g zero wide = refl
strung-long g (suc n) wide =
    let h = strung-long g n (λ j l. wide j (omega arith)) in
    let w = wide n (omega arith) in
    simp length-append (omega arith)

strung-at : (g : ℕ → List ℕ) (n : ℕ) → ((j : ℕ) → j < n → length (g j) ≡ widest) → (i : ℕ) → i < n → (rest : List ℕ) → take widest (drop (widest * i) (strung g n ++ rest)) ≡ g i
unfolding strung
strung-at g zero wide i l rest = absurd (not-suc-le-zero l)
strung-at g (suc n) wide i l rest =
    ap (λ (s : List ℕ). take widest (drop (widest * i) s)) (append_assoc (strung g n) (g n) rest)
    ∙ ⊎_elim last (λ (m : i < n). strung-at g n (λ j b. wide j (omega arith)) i m (g n ++ rest)) (eq-or-lt_of_le (le_of_suc-le-suc l))
  where
    last : i ≡ n → take widest (drop (widest * i) (strung g n ++ (g n ++ rest))) ≡ g i
    last e =
        rw e
        (ap (take widest) (drop_at (strung g n) (g n ++ rest) (widest * n) (strung-long g n (λ j b. wide j (omega arith))))
        ∙ take_at (g n) rest widest (wide n (omega arith)))

-- THE FOUR of a record's values: the first i fields' are put, and the rest is as it was
pub record Storing (gn : ℕ → ℕ) (gz : ℕ → ℤ) (gl : ℕ → ℕ) (gt : ℕ → List ℕ) (n₀ : List ℕ) (z₀ : List ℤ) (l₀ t₀ n : List ℕ) (z : List ℤ) (l t : List ℕ) (i : ℕ) : Type 0 where
  pub within : i ≤ most_fields
  pub room : (most_fields ≤ length n₀) × (most_fields ≤ length z₀) × (most_fields ≤ length l₀) × (most_fields * widest ≤ length t₀)
  pub numbers : Putting gn n₀ n i
  pub coordinates : Putting gz z₀ z i
  pub lengths : Putting gl l₀ l i
  pub texts : Stringing gt t₀ t i

-- all of them
pub record Stored (gn : ℕ → ℕ) (gz : ℕ → ℤ) (gl : ℕ → ℕ) (gt : ℕ → List ℕ) (n₀ : List ℕ) (z₀ : List ℤ) (l₀ t₀ n : List ℕ) (z : List ℤ) (l t : List ℕ) : Type 0 where
  pub numbers : n ≡ row gn most_fields ++ drop most_fields n₀
  pub coordinates : z ≡ row gz most_fields ++ drop most_fields z₀
  pub lengths : l ≡ row gl most_fields ++ drop most_fields l₀
  pub texts : t ≡ strung gt most_fields ++ drop (most_fields * widest) t₀

stored_at : {A : Type 0} (g : ℕ → A) (before : List A) (d : A) {out : List A} → out ≡ row g most_fields ++ drop most_fields before → (i : ℕ) → i < most_fields → get_or (d ∷ out) (i + 1) d ≡ g i
stored_at g before d e i h = rw (add-one, e) (get_or-append (row g most_fields) (drop most_fields before) d i (rw length-row h) ∙ row_at g most_fields d h)

module _ (gn : ℕ → ℕ) (gz : ℕ → ℤ) (gl : ℕ → ℕ) (gt : ℕ → List ℕ) (n₀ : List ℕ) (z₀ : List ℤ) (l₀ t₀ : List ℕ) where
  pub storing-start : (most_fields ≤ length n₀) × (most_fields ≤ length z₀) × (most_fields ≤ length l₀) × (most_fields * widest ≤ length t₀) → Storing gn gz gl gt n₀ z₀ l₀ t₀ n₀ z₀ l₀ t₀ 0
  storing-start room =
      record {
        within = omega arith;
        room = room;
        numbers = putting-start _ n₀;
        coordinates = putting-start _ z₀;
        lengths = putting-start _ l₀;
        texts = stringing-start _ t₀;
      }

  -- a field more: its text is put into a part as wide as the widest field
  pub storing-more :
      (words : List ℕ) {n : List ℕ} {z : List ℤ} {l t ys : List ℕ} {i len x : ℕ} {y : ℤ} → Storing gn gz gl gt n₀ z₀ l₀ t₀ n z l t i → i < most_fields → x ≡ gn i → y ≡ gz i → len ≡ gl i
      → length ys ≡ length (mid_of (widest * i) (widest * i + widest - widest * i) t) → ys ≡ padded (length (mid_of (widest * i) (widest * i + widest - widest * i) t)) words → padded widest words ≡ gt i
      → Storing gn gz gl gt n₀ z₀ l₀ t₀ (set n i x) (set z i y) (set l i len) (put_mid (widest * i) (widest * i + widest - widest * i) t ys) (i + 1)
  storing-more words {t = t} {i = i} s h ex ey el ew eq et =
      let w : length (mid_of (widest * i) (widest * i + widest - widest * i) t) ≡ widest = mid_len (widest * i) (widest * i + widest) t (omega (arith, s.texts.long, s.room)) ∙ omega arith in
      record {
        within = omega arith;
        room = s.room;
        numbers = putting-more _ n₀ (omega (arith, s.room)) s.numbers ex;
        coordinates = putting-more _ z₀ (omega (arith, s.room)) s.coordinates ey;
        lengths = putting-more _ l₀ (omega (arith, s.room)) s.lengths el;
        texts = stringing-more _ t₀ (omega (arith, s.room)) s.texts ew (eq ∙ ap (λ (m : ℕ). padded m words) w ∙ et);
      }

  pub storing-end : {n : List ℕ} {z : List ℤ} {l t : List ℕ} {i : ℕ} → Storing gn gz gl gt n₀ z₀ l₀ t₀ n z l t i → most_fields ≤ i → Stored gn gz gl gt n₀ z₀ l₀ t₀ n z l t
  storing-end {i = i} s h =
      let e : i ≡ most_fields = omega (arith, s.within) in
      record {
        numbers = putting-end _ n₀ e s.numbers;
        coordinates = putting-end _ z₀ e s.coordinates;
        lengths = putting-end _ l₀ e s.lengths;
        texts = stringing-end _ t₀ e s.texts;
      }

  -- WHAT IS HELD of a field
  module _ {n : List ℕ} {z : List ℤ} {l t : List ℕ} (s : Stored gn gz gl gt n₀ z₀ l₀ t₀ n z l t) (wide : (j : ℕ) → j < most_fields → length (gt j) ≡ widest) where
    pub held-stored : (i : ℕ) → i < most_fields → held_at n z l t (i + 1) ≡ value_by (gn i) (gz i) (gl i) (gt i)
    unfolding held_at text_held
    held-stored i h =
        let e : i + 1 - 1 ≡ i = omega arith in
        let words : take widest (drop (widest * (i + 1 - 1)) t) ≡ gt i = rw (e, s.texts) (strung-at gt most_fields wide i h (drop (most_fields * widest) t₀)) in
        rw (stored_at gn n₀ 0 s.numbers i h, stored_at gz z₀ (pos 0) s.coordinates i h, stored_at gl l₀ 0 s.lengths i h, words)

-- A STRUCT OF VALUES: what is held of it says the same. A text is as long as the widest field
given-held : (b : Bool) (x : Said) → pick (not (eqb (pick b 1 0) 0)) x missing ≡ pick b x missing
given-held true x = refl
given-held false x = refl

pub whole-text : (s : List ℕ) → length s ≡ widest → padded widest (first_bytes widest s) ≡ s
unfolding padded
whole-text s e =
    let f : first_bytes widest s ≡ s = first-bytes-le widest s (omega arith) ∙ take_all widest s (omega arith) in
    rw f (take_at s (blanks widest) widest e)

said-held : (form : Form) (x : Value) → length x.text ≡ widest
    → said_by form (value_by x.number x.coordinate (held_length form x) (padded widest (first_bytes widest x.text))) ≡ said_by form x
said-held Words x e = rw (whole-text x.text e)
said-held Code x e = rw (whole-text x.text e)
said-held Sign x e = refl
said-held Number x e = given-held x.given (number x.number)
said-held Size x e = given-held x.given (coordinate x.coordinate)

-- one more has what each before it has
pub one_more : (p : ℕ → Type 0) (i : ℕ) → ((j : ℕ) → j < i → p j) → p i → (j : ℕ) → j < i + 1 → p j
one_more p i h x j l = ⊎_elim (λ (e : j ≡ i). rw e x) (λ (m : j < i). h j m) (eq-or-lt_of_le (le_of_suc-le-suc (below l)))
  where
    below : j < i + 1 → suc j ≤ suc i
    below l = omega arith

abbrev pub text_no : Values → ℕ → List ℕ
text_no v j = padded widest (first_bytes widest (value_at v (j + 1)).text)

-- the four of a struct of values
abbrev pub Laying : Kind → Values → List ℕ → List ℤ → List ℕ → List ℕ → List ℕ → List ℤ → List ℕ → List ℕ → ℕ → Type 0
Laying k v = Storing (λ j. (value_at v (j + 1)).number) (λ j. (value_at v (j + 1)).coordinate) (λ j. held_length (form_at k (j + 1)) (value_at v (j + 1))) (text_no v)

pub laying-more :
    (k : Kind) (v : Values) (n₀ : List ℕ) (z₀ : List ℤ) (l₀ t₀ : List ℕ) {n : List ℕ} {z : List ℤ} {l t ys : List ℕ} {i len : ℕ} {y : ℤ} (form : Form) (x : Value)
    → Laying k v n₀ z₀ l₀ t₀ n z l t i × ((j : ℕ) → j < i → length (value_at v (j + 1)).text ≡ widest) → i < most_fields
    → x ≡ value_at v (i + 1) → length x.text ≡ widest → y ≡ x.coordinate → form ≡ form_at k (i + 1) → len ≡ held_length form x
    → length ys ≡ length (mid_of (widest * i) (widest * i + widest - widest * i) t) → ys ≡ padded (length (mid_of (widest * i) (widest * i + widest - widest * i) t)) (first_bytes widest x.text)
    → Laying k v n₀ z₀ l₀ t₀ (set n i x.number) (set z i y) (set l i len) (put_mid (widest * i) (widest * i + widest - widest * i) t ys) (i + 1)
    × ((j : ℕ) → j < i + 1 → length (value_at v (j + 1)).text ≡ widest)
laying-more k v n₀ z₀ l₀ t₀ {i = i} form x s h ex ew ey ef el ek eq = (
  storing-more _ _ _ _ n₀ z₀ l₀ t₀ (first_bytes widest x.text) s.0 h (ap (λ (a : Value). a.number) ex) (ey ∙ ap (λ (a : Value). a.coordinate) ex)
      (el ∙ ap₂ held_length ef ex) ek eq (ap (λ (a : Value). padded widest (first_bytes widest a.text)) ex),
  one_more (λ j. length (value_at v (j + 1)).text ≡ widest) i s.1 (sym (ap (λ (a : Value). length a.text) ex) ∙ ew),
)

pub laid-says :
    (k : Kind) (v : Values) (n₀ : List ℕ) (z₀ : List ℤ) (l₀ t₀ : List ℕ) {n : List ℕ} {z : List ℤ} {l t : List ℕ} {i : ℕ} → Laying k v n₀ z₀ l₀ t₀ n z l t i → most_fields ≤ i
    → ((j : ℕ) → j < i → length (value_at v (j + 1)).text ≡ widest) → SaySame k (say_by k (held_at n z l t)) (values_say k v)
unfolding say_by values_say
laid-says k v n₀ z₀ l₀ t₀ {n} {z} {l} {t} {i} s h wide zero a b = absurd (not-suc-le-zero a)
laid-says k v n₀ z₀ l₀ t₀ {n} {z} {l} {t} {i} s h wide (suc j) a b =
    subst (λ (f : ℕ). say_by k (held_at n z l t) f ≡ values_say k v f) (add-one j) here
  where
    few : j < most_fields
    few = omega (arith, sane k)

    here : say_by k (held_at n z l t) (j + 1) ≡ values_say k v (j + 1)
    here =
        ap (said_by (form_at k (j + 1))) (held-stored _ _ _ _ n₀ z₀ l₀ t₀ (storing-end _ _ _ _ n₀ z₀ l₀ t₀ s h) (λ m b. length-padded widest _) j few)
        ∙ said-held (form_at k (j + 1)) (value_at v (j + 1)) (wide j (omega (arith, few)))
