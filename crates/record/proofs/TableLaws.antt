-- The laws of the rows of specs/Table.antt.
-- Assumes nothing.
use Prim.Native.Nat.{ℕ, zero, suc, ◌+◌, ◌-◌, ◌≤◌, ◌<◌}
use mathlib.Core.Bool.{Bool, true, false, ◌&&◌, ◌||◌, not}
use mathlib.Core.List.{List, [], ◌∷◌, map}
use mathlib.Core.Path.{◌≡◌, refl, sym, ap, subst, ◌∙◌}
use native.Mathlib.Nat.{le_of_suc-le-suc, not-suc-le-zero}
use native.Mathlib.Omega.{arith}
use lib.Dec.{leb, eqb}
use lib.ListN.{length, get_or, get_or-eq_default}
use borrow.Author.Tests.{leb-true, eq-eqb, not-true}
use Rattle.laws.specs.Row.{row, each}
use Rattle.laws.proofs.RowLaws.{and-true, length-row, row_at, each_at}
use Rattle.laws.proofs.MatchLaws.{NoneOf, numbers, default-at}
use Rattle.record.specs.declared.kind.Kind.{Kind}
use Rattle.record.specs.declared.kind.Kind.TheVariants.{Catalogo, ObPun, ObTex, ObLin, Tramo, Vertice, Nodo, ObComp}
use Rattle.std.specs.Prelude.{None, Some}
use Rattle.record.specs.Table.{Col, whole, cols, room_in, room_of, offset_in, length_in, col_at, form_at, width_at, own_at, offset_at, keys_of, kinds, file_count, most_fields, widest, fields_of, length_of, file_of, which_of, is_n}

-- A TABLE: a test of every element holds at every index, where it holds of the default
pub each-get_d : {A : Type 0} (p : A → Bool) (xs : List A) (d : A) → p d ≡ true → each p xs ≡ true → (i : ℕ) → p (get_or xs i d) ≡ true
unfolding each
each-get_d p [] d h e i = h
each-get_d p (x ∷ xs) d h e zero = (and-true (p x) (each p xs) e).0
each-get_d p (x ∷ xs) d h e (suc i) = each-get_d p xs d h (and-true (p x) (each p xs) e).1 i

-- THE KINDS: what a test of all says of one
pub kind_at : (k : Kind) → get_or kinds (file_of k - 1) Catalogo ≡ k
kind_at Catalogo = refl
kind_at ObPun = refl
kind_at ObTex = refl
kind_at ObLin = refl
kind_at Tramo = refl
kind_at Vertice = refl
kind_at Nodo = refl
kind_at ObComp = refl

-- a file has its number alone
pub file-same : (j k : Kind) → file_of j ≡ file_of k → j ≡ k
file-same j k e = sym (kind_at j) ∙ ap (λ (n : ℕ). get_or kinds (n - 1) Catalogo) e ∙ kind_at k

pub every : (p : Kind → Bool) → each p kinds ≡ true → (k : Kind) → p k ≡ true
unfolding each
every p e k = subst (λ (j : Kind). p j ≡ true) (kind_at k) (each-get_d p kinds Catalogo (and-true (p Catalogo) _ e).0 e (file_of k - 1))

every-le : (g h : Kind → ℕ) → each (λ j. leb (g j) (h j)) kinds ≡ true → (k : Kind) → g k ≤ h k
every-le g h e k = leb-true _ _ (every (λ j. leb (g j) (h j)) e k)

-- the bytes of the longest record
abbrev pub longest : ℕ
longest = 149

-- what the layers above need of each kind
pub record Sane (k : Kind) : Type 0 where
  pub first : 1 ≤ file_of k
  pub last : file_of k ≤ length kinds
  pub long : 2 ≤ length_of k
  pub short : length_of k ≤ longest
  pub few : fields_of k ≤ most_fields

pub sane : (k : Kind) → Sane k
unfolding each
sane k =
    record {
      first = every-le (λ j. 1) file_of refl k;
      last = every-le file_of (λ j. length kinds) refl k;
      long = every-le (λ j. 2) length_of refl k;
      short = every-le length_of (λ j. longest) refl k;
      few = every-le fields_of (λ j. most_fields) refl k;
    }

-- and of each column
fit : Col → Bool
fit c = leb c.width widest && (not (is_n c.form) || leb c.width 10)

pub widths : (k : Kind) (f : ℕ) → (width_at k f ≤ widest) × (is_n (form_at k f) ≡ true → width_at k f ≤ 10)
unfolding width_at form_at col_at each fit
widths k f =
    let e = and-true _ _ (each-get_d fit (cols k) whole refl (every (λ j. each fit (cols j)) refl k) f) in
    (leb-true _ _ e.0, λ n. leb-true _ _ (rw n at e.1))

-- where the key is two fields, the first is a number, and no id stands for it
pair_fits : Kind → Bool
pair_fits k = not (eqb (keys_of k) 2) || (is_n (form_at k 1) && not (own_at k 1))

pub pair-key : (k : Kind) → keys_of k ≡ 2 → (is_n (form_at k 1) ≡ true) × (own_at k 1 ≡ false)
unfolding pair_fits form_at own_at col_at each
pair-key k e =
    let p = and-true _ _ (rw (eq-eqb (keys_of k) 2 e) at (every pair_fits refl k)) in
    (p.0, not-true _ p.1)

-- OFFSETS of any list of columns: of the next, of one past the end, and that a field and a byte after it stand in the record
width_room : (w : ℕ) → w ≤ room_in w
width_room zero = omega arith
width_room (suc w) = omega arith

length-pos : (cs : List Col) → 1 ≤ length_in cs
length-pos [] = omega arith
length-pos (c ∷ cs) = omega (arith, length-pos cs)

offset-first : (cs : List Col) → offset_in cs 0 ≡ 0
offset-first [] = refl
offset-first (c ∷ cs) = refl

next-in : (cs : List Col) (f : ℕ) → offset_in cs (suc f) ≡ offset_in cs f + room_of (get_or cs f whole)
next-in [] f = refl
next-in (c ∷ cs) zero = omega (arith, offset-first cs)
next-in (c ∷ cs) (suc f) = omega (arith, next-in cs f)

pub offset-past : (cs : List Col) (f : ℕ) → length cs ≤ f → offset_in cs f + 1 ≡ length_in cs
offset-past [] f l = refl
offset-past (c ∷ cs) zero l = absurd (not-suc-le-zero l)
offset-past (c ∷ cs) (suc f) l = omega (arith, offset-past cs f (le_of_suc-le-suc l))

within_in : (cs : List Col) (f : ℕ) → offset_in cs f + (get_or cs f whole).width < length_in cs
within_in [] f = omega arith
within_in (c ∷ cs) zero = omega (arith, width_room c.width, length-pos cs)
within_in (c ∷ cs) (suc f) = omega (arith, within_in cs f)

-- and of the kinds'
module _ (k : Kind) (f : ℕ) where
  pub offset-next : offset_at k (suc f) ≡ offset_at k f + room_of (col_at k f)
  unfolding offset_at col_at
  offset-next = next-in (cols k) f

  pub within : offset_at k f + width_at k f < length_of k
  unfolding offset_at width_at col_at
  within = omega (arith, within_in (cols k) f)

  -- past the last field there is nothing
  pub col-past : fields_of k < f → col_at k f ≡ whole
  unfolding col_at
  col-past l = get_or-eq_default (cols k) whole {n = f} (omega arith)

  pub offset-end : fields_of k < f → offset_at k f + 1 ≡ length_of k
  unfolding offset_at
  offset-end l = omega (arith, offset-past (cols k) f (omega arith))

-- A TEST OF THE 16 PLACES of every kind, which is computed once, holds at each
unfoldable pub everywhere : (Kind → ℕ → Bool) → Bool
everywhere p = each (λ k. each (p k) (row (λ f. f) 16)) kinds

pub every-place : (p : Kind → ℕ → Bool) → everywhere p ≡ true → (k : Kind) (f : ℕ) → f < 16 → p k f ≡ true
unfolding everywhere
every-place p e k f l =
    ap (p k) (sym (row_at (λ g. g) 16 0 l)) ∙ each_at (p k) (row (λ g. g) 16) f 0 (every (λ j. each (p j) (row (λ g. g) 16)) e k) (rw length-row l)

-- past the 16 places there is nothing
pub past : {A : Type 0} (g : Col → A) (k : Kind) (f : ℕ) → 16 ≤ f → g whole ≡ g (col_at k f)
past g k f l = ap g (sym (col-past k f (omega (arith, sane k))))

-- THE FILES' NUMBERS: every other number is no file's,
pub which-rest : (n : ℕ) → NoneOf (numbers 1 file_count) n → None ≡ which_of n
unfolding which_of
which-rest n o = default-at None 1 (map Some kinds) n o

-- and a file's own is its kind's
pub which-file : (k : Kind) → which_of (file_of k) ≡ Some k
unfolding which_of
which-file Catalogo = refl
which-file ObPun = refl
which-file ObTex = refl
which-file ObLin = refl
which-file Tramo = refl
which-file Vertice = refl
which-file Nodo = refl
which-file ObComp = refl
