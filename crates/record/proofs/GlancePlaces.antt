-- What a glance tells of coordinates (specs/machinery/Glance.antt): a sign and a size, X, Y and Z, with their partners.
-- Assumes nothing.
use Prim.Native.Nat.{ℕ, zero, suc, ◌+◌, ◌-◌, ◌<◌, ◌≤◌}
use mathlib.Core.Bool.{Bool, true, false}
use mathlib.Core.List.{List, []}
use mathlib.Core.Path.{◌≡◌, refl, sym, ap, ◌∙◌}
use native.Mathlib.Numerals.{add-one}
use native.Mathlib.Omega.{arith}
use lib.Dec.{eqb}
use lib.ListN.{length, get_or, drop, length-drop}
use lib.Seq.{get_or-drop, drop-drop}
use borrow.Author.Tests.{eqb-true, le-ltb, ne_eqb}
use Rattle.laws.specs.Row.{row, each}
use Rattle.laws.proofs.RowLaws.{and-true, true-and, each_last}
use Rattle.field.specs.declared.class.Class.TheVariants.{Blank, Zero}
use Rattle.field.specs.Bytes.{all_of}
use Rattle.record.specs.declared.kind.Kind.{Kind}
use Rattle.record.specs.declared.kind.Form.TheVariants.{Sign, Size}
use Rattle.record.specs.declared.kind.Domain.TheVariants.{Any, PlusMinus}
use Rattle.record.specs.Table.{Col, Must, never, required, whole, sign_col, size_col, pair, z_pair, cols, room_in, col_at, back_at, ahead_at, offset_at, fields_of}
use Rattle.record.specs.Cut.{text_of}
use Rattle.record.specs.Rules.{breaks21, partners_blank, word_within, number_within, in_domain, outside}
use Rattle.record.specs.machinery.Glance.{cut, bar_at, sign_in, signed_at, gone_at, position_at, nowhere_at}
use Rattle.record.proofs.TableLaws.{offset-next}
use Rattle.record.proofs.GlanceLaws.{either, Over, over-two, over-both, Clean, sign-within, full-clean, blank-clean, last-bar, col-form, col-must, col-domain, col-back, col-ahead, col-text, col-bar}

-- PARTNERS that are all blank
abbrev BlankAt : List ℕ → Kind → ℕ → Type 0
BlankAt s k f = all_of Blank (text_of s k f) ≡ true

each_row : {A : Type 0} (p : A → Bool) (g : ℕ → A) (n : ℕ) → ((j : ℕ) → j < n → p (g j) ≡ true) → each p (row g n) ≡ true
unfolding row each
each_row p g zero h = refl
each_row p g (suc n) h = each_last p (row g n) (g n) ∙ true-and _ _ (each_row p g n (λ j l. h j (omega arith))) (h n (omega arith))

blank-partners : (s : List ℕ) (k : Kind) (f a e : ℕ) → Over (BlankAt s k) a e → a ≤ f - back_at k f → f - back_at k f + (back_at k f + ahead_at k f + 1) ≤ e
    → partners_blank s k f ≡ true
unfolding partners_blank
blank-partners s k f a e h l u = each_row (all_of Blank) (λ j. text_of s k (f - back_at k f + j)) (back_at k f + ahead_at k f + 1) (λ j m. h _ (omega arith) (omega arith))

-- A SIGN AND A SIZE at f and f + 1
module _ (s : List ℕ) (k : Kind) (f : ℕ) (w : ℕ) (must : Must) (back ahead : ℕ) (rest : List Col) (d : drop f (cols k) ≡ pair w must back ahead rest) where
  sign-col : col_at k f ≡ sign_col must back ahead
  unfolding col_at
  sign-col = let e : f + 0 ≡ f = omega arith in ap (λ (x : ℕ). get_or (cols k) x whole) (sym e) ∙ sym (get_or-drop f (cols k) 0 whole) ∙ ap (λ (l : List Col). get_or l 0 whole) d

  size-col : col_at k (f + 1) ≡ size_col w must back ahead
  unfolding col_at
  size-col = sym (get_or-drop f (cols k) 1 whole) ∙ ap (λ (l : List Col). get_or l 1 whole) d

  -- the next of them
  pair-rest : drop (f + 2) (cols k) ≡ rest
  pair-rest = sym (drop-drop 2 f (cols k)) ∙ ap (drop 2) d

  size-offset : offset_at k (f + 1) ≡ offset_at k f + 2
  size-offset = rw (add-one, offset-next k f, sign-col)

  pair-offset : room_in w ≡ w + 1 → offset_at k (f + 2) ≡ offset_at k f + (w + 3)
  pair-offset r =
      let e : f + 2 ≡ suc (f + 1) = omega arith in
      rw (e, offset-next k (f + 1), size-col, size-offset, r) (omega arith)

  sign_text : text_of s k f ≡ cut s (offset_at k f) 1
  sign_text = col-text s k f _ sign-col

  size-text : text_of s k (f + 1) ≡ cut s (offset_at k f + 2) w
  size-text = col-text s k (f + 1) _ size-col ∙ ap (λ (o : ℕ). cut s o w) size-offset

  -- the bar after the size, and none after the last
  size-bar : {o : ℕ} → bar_at s o ≡ true → o ≡ offset_at k f + 2 + w → breaks21 s k (f + 1) ≡ false
  size-bar h e = col-bar s k (f + 1) _ size-col h (rw size-offset e)

  size-last : rest ≡ [] → breaks21 s k (f + 1) ≡ false
  size-last e =
      let h : length (drop f (cols k)) ≡ 2 = rw (d, e) in
      last-bar s k (f + 1) (le-ltb (f + 1) (fields_of k) (omega (arith, length-drop f (cols k))))

  -- both blank
  gone-blank : gone_at s (offset_at k f) w ≡ true → Over (BlankAt s k) f (f + 2)
  unfolding gone_at
  gone-blank h =
      let h' = and-true _ _ h in
      over-two (BlankAt s k) f (rw sign_text (and-true _ _ h'.0).0) (rw size-text h'.1)

  gone-bar : gone_at s (offset_at k f) w ≡ true → bar_at s (offset_at k f + 1) ≡ true
  unfolding gone_at
  gone-bar h = (and-true (all_of Blank (cut s (offset_at k f) 1)) (bar_at s (offset_at k f + 1)) (and-true _ (all_of Blank (cut s (offset_at k f + 2) w)) h).0).1

  module _ (l : 0 < f) (bar : breaks21 s k (f + 1) ≡ false) where
    -- a coordinate is clean,
    signed-clean : signed_at s (offset_at k f) w ≡ true → Over (Clean s k) f (f + 2)
    unfolding signed_at sign_in word_within number_within in_domain outside
    signed-clean h =
        let h' = and-true _ _ h in
        let sign = and-true _ _ h'.0 in
        let t = and-true _ _ sign.0 in
        let x = get_or (cut s (offset_at k f) 1) 0 0 in
        over-two (Clean s k) f
        (full-clean s k f l (col-bar s k f _ sign-col sign.1 refl) Sign PlusMinus (col-form s k f _ sign-col) (col-domain s k f _ sign-col) (rw sign_text t.0) refl
        (rw (sign_text, size-text) (sign-within (eqb x 43) (eqb x 45) (all_of Zero (cut s (offset_at k f + 2) w)) (λ e. ne_eqb x 45 (λ q. omega (arith, eqb-true x 43 e))) t.1)))
        (full-clean s k (f + 1) (omega arith) bar Size Any (col-form s k (f + 1) _ size-col) (col-domain s k (f + 1) _ size-col) (rw size-text h'.1) refl refl)

    -- and blanks are, where all partners are blank
    gone-clean : required must ≡ false → gone_at s (offset_at k f) w ≡ true → (a e : ℕ) → Over (BlankAt s k) a e → a ≤ f - back → f - back + (back + ahead + 2) ≤ e → Over (Clean s k) f (f + 2)
    gone-clean m h a e all low high =
        let both = gone-blank h in
        over-two (Clean s k) f
        (blank-clean s k f l (col-bar s k f _ sign-col (gone-bar h) refl) (col-must s k f _ sign-col ∙ m) (both f (omega arith) (omega arith))
        (blank-partners s k f a e all (omega (arith, col-back s k f _ sign-col)) (omega (arith, col-back s k f _ sign-col, col-ahead s k f _ sign-col))))
        (blank-clean s k (f + 1) (omega arith) bar (col-must s k (f + 1) _ size-col ∙ m) (both (f + 1) (omega arith) (omega arith))
        (blank-partners s k (f + 1) a e all (omega (arith, col-back s k (f + 1) _ size-col)) (omega (arith, col-back s k (f + 1) _ size-col, col-ahead s k (f + 1) _ size-col))))

-- X, Y AND Z at n: three of them, where X and Y may be missing or not
module _ (s : List ℕ) (k : Kind) (n : ℕ) (l : 0 < n) (must : Must) (b₁ a₁ b₂ a₂ : ℕ) (d : drop n (cols k) ≡ pair 9 must b₁ a₁ (pair 10 must b₂ a₂ z_pair)) where
  y-cols : drop (n + 2) (cols k) ≡ pair 10 must b₂ a₂ z_pair
  y-cols = pair-rest s k n 9 must b₁ a₁ (pair 10 must b₂ a₂ z_pair) d

  z-cols : drop (n + 2 + 2) (cols k) ≡ z_pair
  z-cols = pair-rest s k (n + 2) 10 must b₂ a₂ z_pair y-cols

  y-offset : offset_at k (n + 2) ≡ offset_at k n + 12
  y-offset = pair-offset s k n 9 must b₁ a₁ (pair 10 must b₂ a₂ z_pair) d refl

  z-offset : offset_at k (n + 2 + 2) ≡ offset_at k n + 25
  z-offset = let e = pair-offset s k (n + 2) 10 must b₂ a₂ z_pair y-cols refl in omega (arith, y-offset)

  -- the bars between them
  module _ (x : bar_at s (offset_at k n + 11) ≡ true) (y : bar_at s (offset_at k n + 24) ≡ true) where
    x-bar : breaks21 s k (n + 1) ≡ false
    x-bar = size-bar s k n 9 must b₁ a₁ (pair 10 must b₂ a₂ z_pair) d x (omega arith)

    y-bar : breaks21 s k (n + 2 + 1) ≡ false
    y-bar = size-bar s k (n + 2) 10 must b₂ a₂ z_pair y-cols y (omega (arith, y-offset))

  z-bar : breaks21 s k (n + 2 + 2 + 1) ≡ false
  z-bar = size-last s k (n + 2 + 2) 8 never 0 0 [] z-cols refl

  pub three : (P : ℕ → Type 0) → Over P n (n + 2) → Over P (n + 2) (n + 2 + 2) → Over P (n + 2 + 2) (n + 2 + 2 + 2) → Over P n (n + 6)
  three P x y z = over-both P n (n + 2) x (over-both P (n + 2) (n + 2 + 2) y (λ g l u. z g l (omega arith)))

  -- a position is clean,
  pub position-clean : position_at s (offset_at k n) ≡ true → Over (Clean s k) n (n + 6)
  unfolding position_at
  position-clean h =
      let z = and-true _ _ h in
      let y' = and-true _ _ z.0 in
      let y = and-true _ _ y'.0 in
      let x = and-true _ _ y.0 in
      three (Clean s k)
      (signed-clean s k n 9 must b₁ a₁ _ d l (x-bar x.1 y'.1) x.0)
      (signed-clean s k (n + 2) 10 must b₂ a₂ _ y-cols (omega arith) (y-bar x.1 y'.1) (rw y-offset y.1))
      (either _ _
      (λ e. signed-clean s k (n + 2 + 2) 8 never 0 0 [] z-cols (omega arith) z-bar (rw z-offset e))
      (λ e. let g = rw (← z-offset) at e in gone-clean s k (n + 2 + 2) 8 never 0 0 [] z-cols (omega arith) z-bar refl g _ _ (gone-blank s k (n + 2 + 2) 8 never 0 0 [] z-cols g) (omega arith) (omega arith))
      z.1)

  -- and blanks for it are, where X and Y may be missing and have all six for partners
  pub nowhere-clean : required must ≡ false → b₁ ≡ 0 → a₁ ≡ 4 → b₂ ≡ 2 → a₂ ≡ 2 → nowhere_at s (offset_at k n) ≡ true → Over (Clean s k) n (n + 6)
  unfolding nowhere_at
  nowhere-clean m p q u v h =
      let z = and-true _ _ h in
      let y' = and-true _ _ z.0 in
      let y = and-true _ _ y'.0 in
      let x = and-true _ _ y.0 in
      let gx = x.0 in
      let gy : gone_at s (offset_at k (n + 2)) 10 ≡ true = rw y-offset y.1 in
      let gz : gone_at s (offset_at k (n + 2 + 2)) 8 ≡ true = rw z-offset z.1 in
      let all = three (BlankAt s k) (gone-blank s k n 9 must b₁ a₁ _ d gx) (gone-blank s k (n + 2) 10 must b₂ a₂ _ y-cols gy) (gone-blank s k (n + 2 + 2) 8 never 0 0 [] z-cols gz) in
      three (Clean s k)
      (gone-clean s k n 9 must b₁ a₁ _ d l (x-bar x.1 y'.1) m gx n (n + 6) all (omega arith) (omega arith))
      (gone-clean s k (n + 2) 10 must b₂ a₂ _ y-cols (omega arith) (y-bar x.1 y'.1) m gy n (n + 6) all (omega arith) (omega arith))
      (gone-clean s k (n + 2 + 2) 8 never 0 0 [] z-cols (omega arith) z-bar refl gz n (n + 6) all (omega arith) (omega arith))
