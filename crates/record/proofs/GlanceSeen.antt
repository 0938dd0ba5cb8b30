-- What a glance tells, field by field: a record where its tests hold at every place has no break.
-- Assumes nothing.
use Prim.Native.Nat.{ℕ, zero, suc, ◌+◌, ◌<◌, ◌≤◌}
use mathlib.Core.Bool.{Bool, true, false, ◌&&◌, ◌||◌}
use mathlib.Core.List.{List, [], ◌∷◌}
use mathlib.Core.Path.{◌≡◌, refl, sym, ◌∙◌}
use native.Mathlib.Omega.{arith}
use lib.Dec.{ltb}
use lib.ListN.{take, drop}
use lib.Seq.{get_or-take, get_or-drop, take-take, drop-drop}
use Rattle.laws.specs.Row.{pick}
use Rattle.laws.proofs.RowLaws.{and-true}
use Rattle.field.specs.declared.class.Class.TheVariants.{Digit, Plain}
use Rattle.record.specs.declared.kind.Kind.{Kind}
use Rattle.record.specs.declared.kind.Form.{Form}
use Rattle.record.specs.declared.kind.Form.TheVariants.{Words, Code, Number}
use Rattle.record.specs.declared.kind.Domain.{Domain}
use Rattle.record.specs.declared.kind.Domain.TheVariants.{Any}
use Rattle.record.specs.declared.kind.Target.{Target}
use Rattle.record.specs.declared.kind.Target.TheVariants.{Free}
use Rattle.record.specs.Table.{never, always, alone, single, position, centroid, cols, col_at, offset_at, fields_of, is_n, is_code, is_sign}
use Rattle.record.specs.Rules.{breaks21, word_within, number_within, in_domain, outside}
use Rattle.record.specs.machinery.Glance.{cut, bar_at, full, full_or_blank, full_in, in_or_blank, need_at, may_at, need_in_at, may_in_at, code_at, signed_at, gone_at, position_at, nowhere_at}
use Rattle.record.proofs.GlanceLaws.{either, Over, over-one, over-both, Clean, full-some, no-n, longer, full-clean, last-bar, bar-length, col-form, col-domain, col-text, col-bar, alone-clean, Seen}
use Rattle.record.proofs.GlancePlaces.{position-clean, nowhere-clean}

-- A TEXT that is full and within a domain is full, and not outside
full-in : (form : Form) (d : Domain) (t : List ℕ) → full_in form d t ≡ true → full (pick (is_n form) Digit Plain) t ≡ true
unfolding full_in
full-in form d t h = (and-true _ _ h).0

not-out : (form : Form) (d : Domain) (t next : List ℕ) → is_sign form ≡ false → full_in form d t ≡ true → outside form d t next ≡ false
unfolding full_in outside
not-out form d t next s h = rw ((and-true (full (pick (is_n form) Digit Plain) t) (in_domain form d t) h).1, s)

-- so the field is clean where it is that, or blank where it may be
in_clean :
    (s : List ℕ) (k : Kind) (f : ℕ) (form : Form) (d : Domain) (w : ℕ) → is_code form ≡ false → is_sign form ≡ false → 0 < f → col_at k f ≡ single form w never d Free
    → breaks21 s k f ≡ false → in_or_blank form d (cut s (offset_at k f) w) ≡ true → Clean s k f
unfolding in_or_blank
in_clean s k f form d w code sign l q bar h =
    alone-clean s k f _ q l bar refl refl code _ (full-in form d _) (λ z next. not-out form d _ next sign z) h

-- FIELD BY FIELD
module _ (s : List ℕ) (k : Kind) (n : ℕ) {a b : Bool} (past : Seen s k n a) where
  seen_more : {e : ℕ} → n ≤ e → (b ≡ true → Over (Clean s k) n e) → Seen s k e (a && b)
  seen_more l h =
      record { some = omega (arith, past.some); tells = λ y. let w = and-true a b y in over-both (Clean s k) 0 n (past.tells w.0) (h w.1) }

  seen_one : (b ≡ true → Clean s k n) → Seen s k (n + 1) (a && b)
  seen_one h = seen_more (omega arith) (λ y. over-one (Clean s k) n (h y))

  -- a number that may not be missing,
  pub seen-need : (w : ℕ) {r : Target} → col_at k n ≡ single Number w always Any r → b ≡ need_at s (offset_at k n) w → Seen s k (n + 1) (a && b)
  unfolding need_at number_within in_domain outside
  seen-need w q e = seen_one (λ y.
      let h = and-true _ _ (sym e ∙ y) in
      full-clean s k n past.some (col-bar s k n _ q h.1 refl) Number Any (col-form s k n _ q) (col-domain s k n _ q) (rw (col-text s k n _ q) h.0) refl refl)

  -- a number and a text that may be,
  pub seen-may : (w : ℕ) {r : Target} {own : Bool} → col_at k n ≡ alone Number w never Any r own false → b ≡ may_at Digit s (offset_at k n) w → Seen s k (n + 1) (a && b)
  unfolding may_at full_or_blank number_within in_domain outside
  seen-may w q e = seen_one (λ y.
      let h = and-true _ _ (sym e ∙ y) in
      alone-clean s k n _ q past.some (col-bar s k n _ q h.1 refl) refl refl refl _ (λ z. z) (λ z next. refl) h.0)

  pub seen-words : (w : ℕ) {free : Bool} → col_at k n ≡ alone Words w never Any Free false free → b ≡ may_at Plain s (offset_at k n) w → Seen s k (n + 1) (a && b)
  unfolding may_at full_or_blank word_within in_domain outside
  seen-words w q e = seen_one (λ y.
      let h = and-true _ _ (sym e ∙ y) in
      alone-clean s k n _ q past.some (col-bar s k n _ q h.1 refl) refl refl refl _ (λ z. z) (λ z next. refl) h.0)

  -- the same as the last field,
  pub seen_last : (w : ℕ) {free : Bool} → col_at k n ≡ alone Words w never Any Free false free → ltb n (fields_of k) ≡ false → b ≡ full_or_blank Plain (cut s (offset_at k n) w) → Seen s k (n + 1) (a && b)
  unfolding full_or_blank word_within in_domain outside
  seen_last w q l e = seen_one (λ y.
      alone-clean s k n _ q past.some (last-bar s k n l) refl refl refl _ (λ z. z) (λ z next. refl) (sym e ∙ y))

  -- a CODIGO
  pub seen-code : {r : Target} → col_at k n ≡ single Code 7 always Any r → b ≡ code_at s (offset_at k n) 7 → Seen s k (n + 1) (a && b)
  unfolding code_at word_within in_domain outside
  seen-code q e = seen_one (λ y.
      let h = and-true _ _ (sym e ∙ y) in
      let h' = and-true _ _ h.0 in
      let t = col-text s k n _ q in
      full-clean s k n past.some (col-bar s k n _ q h.1 refl) Code Any (col-form s k n _ q) (col-domain s k n _ q) (rw t h'.0) (rw t (either _ _ (no-n _ (full-some Plain _ h'.0)) (longer _ (omega (arith, bar-length s (offset_at k n) 7 h.1))) h'.1)) refl)

  -- A FIELD WITH A DOMAIN, which is neither a CODIGO nor a sign: one that may not be missing,
  module _ (form : Form) (d : Domain) (w : ℕ) (code : is_code form ≡ false) (sign : is_sign form ≡ false) where
    pub seen-need-in : col_at k n ≡ single form w always d Free → b ≡ need_in_at form d s (offset_at k n) w → Seen s k (n + 1) (a && b)
    unfolding need_in_at
    seen-need-in q e = seen_one (λ y.
        let h = and-true _ _ (sym e ∙ y) in
        let t = col-text s k n _ q in
        full-clean s k n past.some (col-bar s k n _ q h.1 refl) form d (col-form s k n _ q) (col-domain s k n _ q)
        (rw t (full-in form d _ h.0)) (rw code) (rw t (not-out form d _ _ sign h.0)))

    -- one that may be,
    pub seen-may-in : col_at k n ≡ single form w never d Free → b ≡ may_in_at form d s (offset_at k n) w → Seen s k (n + 1) (a && b)
    unfolding may_in_at
    seen-may-in q e = seen_one (λ y.
        let h = and-true _ _ (sym e ∙ y) in
        in_clean s k n form d w code sign past.some q (col-bar s k n _ q h.1 refl) h.0)

    -- and the same as the last field
    pub seen-last-in : col_at k n ≡ single form w never d Free → ltb n (fields_of k) ≡ false → b ≡ in_or_blank form d (cut s (offset_at k n) w) → Seen s k (n + 1) (a && b)
    seen-last-in q l e = seen_one (λ y. in_clean s k n form d w code sign past.some q (last-bar s k n l) (sym e ∙ y))

  -- X, Y and Z, which are the last
  pub seen-position : drop n (cols k) ≡ position → (b ≡ true → position_at s (offset_at k n) ≡ true) → Seen s k (n + 6) (a && b)
  seen-position d e = seen_more (omega arith) (λ y. position-clean s k n past.some always 0 0 0 0 d (e y))

-- or blanks for all three
pub seen-centroid : (s : List ℕ) (k : Kind) (n : ℕ) {a b c : Bool} → Seen s k n a → drop n (cols k) ≡ centroid → (b ≡ true → position_at s (offset_at k n) ≡ true)
    → (c ≡ true → nowhere_at s (offset_at k n) ≡ true) → Seen s k (n + 6) (a && (b || c))
seen-centroid s k n {a} {b} {c} past d p q =
    seen_more s k n past (omega arith)
    (either b c
    (λ y. position-clean s k n past.some never 0 4 2 2 d (p y))
    (λ y. nowhere-clean s k n past.some never 0 4 2 2 d refl refl refl refl refl (q y)))

-- A PART of n bytes from o on is read in place of the record
part-inside : (n a w : ℕ) (l : List ℕ) → a + w ≤ n → take w (drop a (take n l)) ≡ take w (drop a l)
part-inside n zero w l h = take-take w n l (omega arith)
part-inside zero (suc a) w l h = absurd (omega arith)
part-inside (suc n) (suc a) w [] h = refl
part-inside (suc n) (suc a) w (b ∷ l) h = part-inside n a w l (omega arith)

module _ (s : List ℕ) (o n : ℕ) where
  cut_inside : (a w x : ℕ) → a + w ≤ n → o + a ≡ x → cut (cut s o n) a w ≡ cut s x w
  cut_inside a w x h e = part-inside n a w (drop o s) h ∙ rw (drop-drop, e)

  bar-inside : (a x : ℕ) → a < n → o + a ≡ x → bar_at (cut s o n) a ≡ bar_at s x
  unfolding bar_at
  bar-inside a x h e = rw (get_or-take n (drop o s) a 0 h, get_or-drop, e)

  signed-inside : (a w x : ℕ) → a + 2 + w ≤ n → o + a ≡ x → signed_at (cut s o n) a w ≡ signed_at s x w
  unfolding signed_at
  signed-inside a w x h e =
      rw (cut_inside a 1 x (omega arith) e, cut_inside (a + 2) w (x + 2) h (omega arith), bar-inside (a + 1) (x + 1) (omega arith) (omega arith))

  gone-inside : (a w x : ℕ) → a + 2 + w ≤ n → o + a ≡ x → gone_at (cut s o n) a w ≡ gone_at s x w
  unfolding gone_at
  gone-inside a w x h e =
      rw (cut_inside a 1 x (omega arith) e, cut_inside (a + 2) w (x + 2) h (omega arith), bar-inside (a + 1) (x + 1) (omega arith) (omega arith))

-- as the 35 bytes of X, Y and Z are
module _ (s : List ℕ) (o : ℕ) where
  pub position-inside : position_at (cut s o 35) 0 ≡ position_at s o
  unfolding position_at
  position-inside =
      rw (
        signed-inside s o 35 0 9 o (omega arith) (omega arith),
        bar-inside s o 35 11 (o + 11) (omega arith) refl,
        signed-inside s o 35 12 10 (o + 12) (omega arith) refl,
        bar-inside s o 35 24 (o + 24) (omega arith) refl,
        signed-inside s o 35 25 8 (o + 25) (omega arith) refl,
        gone-inside s o 35 25 8 (o + 25) (omega arith) refl,
      )

  pub nowhere-inside : nowhere_at (cut s o 35) 0 ≡ nowhere_at s o
  unfolding nowhere_at
  nowhere-inside =
      rw (
        gone-inside s o 35 0 9 o (omega arith) (omega arith),
        bar-inside s o 35 11 (o + 11) (omega arith) refl,
        gone-inside s o 35 12 10 (o + 12) (omega arith) refl,
        bar-inside s o 35 24 (o + 24) (omega arith) refl,
        gone-inside s o 35 25 8 (o + 25) (omega arith) refl,
      )
