-- Equal numbers are equal sayings: of places and of keys (specs/Says.antt).
-- Assumes nothing.
use Prim.Native.Nat.{ℕ, ◌≤◌, ◌<◌}
use mathlib.Core.Bool.{Bool, true, false}
use mathlib.Core.List.{List}
use mathlib.Core.Path.{◌≡◌, refl, ap}
use native.Mathlib.Omega.{arith}
use lib.IntN.{ℤ, pos, negsuc}
use lib.ListN.{length, get_or}
use Rattle.laws.specs.Row.{pick}
use Rattle.laws.proofs.FindLaws.{true-false}
use Rattle.field.specs.declared.class.Class.TheVariants.{Blank}
use Rattle.field.specs.Bytes.{all_of}
use Rattle.field.specs.Digits.{number_written}
use Rattle.field.specs.Texts.{trimmed}
use Rattle.field.proofs.TextLaws.{trimmed-le, trimmed-same, word_some}
use Rattle.record.specs.declared.kind.Form.{Form}
use Rattle.record.specs.declared.kind.Form.TheVariants.{Words, Code, Sign, Number, Size}
use Rattle.record.specs.Table.{is_n}
use Rattle.record.specs.Says.{Said, missing, number, text, coordinate, said_as, is_missing, key_in, place_of, place_in}

-- PLACES: what a field of a coordinate says, missing or a coordinate
abbrev pub Placed : Said → Type 0
Placed missing = Unit {0}
Placed (number n) = ⊥
Placed (text t) = ⊥
Placed (coordinate z) = Unit {0}

pub placed-size : (form : Form) (t b : List ℕ) → form ≡ Size → Placed (said_as form t b)
unfolding said_as
placed-size form t b e = rw e (go (all_of Blank t) _)
  where
    go : (blank : Bool) (z : ℤ) → Placed (pick blank missing (coordinate z))
    go true z = tt
    go false z = tt

place-of-same : (y z : ℤ) → place_of y ≡ place_of z → y ≡ z
place-of-same (pos m) (pos n) e = ap pos (omega arith)
place-of-same (pos m) (negsuc n) e = absurd (omega arith)
place-of-same (negsuc m) (pos n) e = absurd (omega arith)
place-of-same (negsuc m) (negsuc n) e = ap negsuc (omega arith)

place-some : (z : ℤ) → 0 < place_of z
place-some (pos n) = omega arith
place-some (negsuc n) = omega arith

-- two of these with the same place are the same
pub place_same : (x y : Said) → Placed x → Placed y → place_in x ≡ place_in y → x ≡ y
place_same missing missing p q e = refl
place_same missing (number n) p q e = absurd q
place_same missing (text t) p q e = absurd q
place_same missing (coordinate z) p q e = absurd (omega (arith, place-some z))
place_same (number n) y p q e = absurd p
place_same (text t) y p q e = absurd p
place_same (coordinate z) missing p q e = absurd (omega (arith, place-some z))
place_same (coordinate z) (number n) p q e = absurd q
place_same (coordinate z) (text t) p q e = absurd q
place_same (coordinate y) (coordinate z) p q e = ap coordinate (place-of-same y z e)

-- KEYS: a number, or a text of up to seven bytes, so that its word ends in a blank
abbrev pub Keyed : Form → List ℕ → Type 0
Keyed Words t = length t ≤ 7
Keyed Code t = length t ≤ 7
Keyed Sign t = ⊥
Keyed Number t = Unit {0}
Keyed Size t = ⊥

-- what such a field says where it is not blank, by whether it is a number
abbrev key_said : Bool → List ℕ → Said
key_said true t = number (number_written t)
key_said false t = text (trimmed t)

as-key : (form : Form) (t b : List ℕ) → Keyed form t → (said_as form t b ≡ pick (all_of Blank t) missing (key_said (is_n form) t)) × (is_n form ≡ false → length t ≤ 7)
unfolding said_as
as-key Words t b h = (refl, λ _. h)
as-key Code t b h = (refl, λ _. h)
as-key Sign t b h = absurd h
as-key Number t b h = (refl, λ e. absurd (true-false e))
as-key Size t b h = absurd h

key-some : (n : Bool) (t : List ℕ) → (n ≡ false → length t ≤ 7) → 0 < key_in (key_said n t)
key-some true t h = omega arith
key-some false t h = word_some (trimmed t) (omega (arith, trimmed-le t, h refl))

-- no key is 0 but that of a field that is missing,
pub key-missing : (form : Form) (t b : List ℕ) → Keyed form t → key_in (said_as form t b) ≡ 0 → is_missing (said_as form t b) ≡ true
key-missing form t b h =
    let w = as-key form t b h in
    rw w.0 (go (all_of Blank t) (key_said (is_n form) t) (key-some (is_n form) t w.1))
  where
    go : (blank : Bool) (x : Said) → 0 < key_in x → key_in (pick blank missing x) ≡ 0 → is_missing (pick blank missing x) ≡ true
    go true x l e = refl
    go false x l e = absurd (omega arith)

-- and two fields with the same key say the same
pub key-same : (p q : Form) (t b u c : List ℕ) → is_n p ≡ is_n q → Keyed p t → Keyed q u → ((k : ℕ) → get_or t k 0 < 256) → ((k : ℕ) → get_or u k 0 < 256)
    → key_in (said_as p t b) ≡ key_in (said_as q u c) → said_as p t b ≡ said_as q u c
key-same p q t b u c n hp hq bt bu =
    let v = as-key p t b hp in
    let w = as-key q u c hq in
    rw (v.0, w.0, n)
    (go (all_of Blank t) (all_of Blank u) (key-some (is_n q) t (rw n at v.1)) (key-some (is_n q) u w.1) (same (is_n q) (rw n at v.1) w.1))
  where
    go : (blank blank' : Bool) {x y : Said} → 0 < key_in x → 0 < key_in y → (key_in x ≡ key_in y → x ≡ y)
        → key_in (pick blank missing x) ≡ key_in (pick blank' missing y) → pick blank missing x ≡ pick blank' missing y
    go true true lx ly h e = refl
    go true false lx ly h e = absurd (omega arith)
    go false true lx ly h e = absurd (omega arith)
    go false false lx ly h e = h e

    same : (n : Bool) → (n ≡ false → length t ≤ 7) → (n ≡ false → length u ≤ 7) → key_in (key_said n t) ≡ key_in (key_said n u) → key_said n t ≡ key_said n u
    same true lt lu e = ap number (omega arith)
    same false lt lu e = ap text (trimmed-same t u (omega (arith, lt refl)) (omega (arith, lu refl)) bt bu e)
