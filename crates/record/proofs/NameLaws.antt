-- How records are named (specs/Names.antt), as the code reads it.
-- Assumes nothing.
use Prim.Native.Nat.{ℕ, ◌+◌, ◌*◌}
use mathlib.Core.Bool.{Bool, false, ◌&&◌, and-false}
use mathlib.Core.Path.{◌≡◌, refl, sym}
use borrow.Author.Tests.{eq-eqb, ne_eqb}
use Rattle.laws.specs.Row.{pick}
use Rattle.record.specs.declared.kind.Kind.{Kind}
use Rattle.record.specs.Table.{keys_of, own_at}
use Rattle.record.specs.Says.{Said, missing, number, text, coordinate, Table, is_missing, number_in, key_in}
use Rattle.record.specs.Names.{name_at, key_of}
use Rattle.record.proofs.TableLaws.{pair-key}

module _ (k : Kind) (t : Table) (i f : ℕ) where
  -- from the code's test b of whether the own id stands for the field
  pub name-said : {o b : Bool} {r : ℕ} → o ≡ (own_at k f && is_missing (t.says i f)) → o ≡ b → r ≡ pick b (key_in (t.says i 1)) (key_in (t.says i f)) → r ≡ name_at k t i f
  unfolding name_at
  name-said e h q = rw (← e, h) q

  -- and from what is said there as one number, where that is something
  pub name-there : {x : ℕ} → x ≡ key_in (t.says i f) → (x ≡ 0 → ⊥) → x ≡ name_at k t i f
  unfolding name_at
  name-there {x} e h = rw (gone (t.says i f) (sym e), and-false) e
    where
      gone : (y : Said) → key_in y ≡ x → is_missing y ≡ false
      gone missing q = absurd (h (sym q))
      gone (number n) q = refl
      gone (text u) q = refl
      gone (coordinate z) q = refl

-- KEYS of one field, and of two
module _ (k : Kind) (t : Table) (i : ℕ) where
  pub key-name : (keys_of k ≡ 2 → ⊥) → name_at k t i 1 ≡ key_of k t i
  unfolding key_of
  key-name h = rw (ne_eqb (keys_of k) 2 h)

  pub key-pair : {line order : ℕ} → keys_of k ≡ 2 → line ≡ name_at k t i 1 → order ≡ number_in (t.says i 2) → line * 100000 + order ≡ key_of k t i
  unfolding key_of
  key-pair e l o = rw (eq-eqb (keys_of k) 2 e, l, o)

  -- the first of two is what is said there
  pub pair-name : {line : ℕ} → keys_of k ≡ 2 → line ≡ key_in (t.says i 1) → line ≡ name_at k t i 1
  unfolding name_at
  pair-name e l = rw (pair-key k e).1 l
