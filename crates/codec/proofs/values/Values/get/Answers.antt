-- `codec::values::Values::get` meets its contract.
-- Assumes nothing.
use Prim.Native.Nat.{ℕ, suc, ◌-◌, ◌<◌}
use mathlib.Core.List.{List, ◌∷◌, map}
use mathlib.Core.Path.{◌≡◌, ap, sym, ◌∙◌}
use native.Mathlib.Omega.{arith}
use lib.ListN.{length, length-map, get_or, take, drop, get_or-eq_default}
use lib.Seq.{split_at, get_or_at, length-take-le}
use borrow.Author.Rules.{rules}
use Rattle.codec.specs.Values.{no_value, value_at}
use Rattle.codec.proofs.values.Values.get.Goals as goal

-- an array of structs is as long as what its type tells it of
long : (A B : Type 0) (f : A → B) (l : List A) (n : ℕ) → length (map f l) ≡ n → length l ≡ n
long A B f l n e = sym (length-map l f) ∙ e

-- within a list the default does not count
within : {A : Type 0} (l : List A) (n : ℕ) (d d' : A) → n < length l → get_or l n d ≡ get_or l n d'
within l n d d' h =
    ap (λ m. get_or m n d) (split_at l n d' h) ∙ get_or_at (take n l) (get_or l n d') (drop (suc n) l) d n (length-take-le n l (omega arith))

pub returns-then-f-lt1 : goal.returns-then-f-lt1
unfolding value_at
returns-then-f-lt1 c = let e : c.args.f ≡ 0 = omega arith in
    rw e c.missing_value.ensures

pub returns-then-f-gt-MOST_FIELDS : goal.returns-then-f-gt-MOST_FIELDS
unfolding value_at
returns-then-f-gt-MOST_FIELDS c = let v = c.args.self in
    let h : length v.at ≡ 14 = search (rules, long) in
    c.missing_value-then-f-gt-MOST_FIELDS.ensures ∙ sym (get_or-eq_default (no_value ∷ v.at) no_value {n = c.args.f} (omega arith))

pub returns : goal.returns
unfolding value_at
returns c = let a = c.args in
    let h : length c.args.self.at ≡ 14 = search (rules, long) in
    let e : a.f ≡ suc (a.f - 1) = omega arith in
    within c.args.self.at (a.f - 1) _ no_value (omega arith) ∙ ap (λ (f : ℕ). get_or (no_value ∷ c.args.self.at) f no_value) (sym e)
