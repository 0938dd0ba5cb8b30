-- The laws of chains over the records of a file: whether a test holds at one of the first n, and at which first.
-- Assumes nothing.
use Prim.Native.Nat.{ℕ, ◌<◌, ◌≤◌}
use mathlib.Core.Bool.{Bool, true, false}
use mathlib.Core.Path.{◌≡◌, refl, sym, ap, ◌∙◌}
use native.Mathlib.Omega.{arith}
use denote.Param.Members.{Mut}
use denote.Ref.{Bor}
use lib.ListN.{length, get_or}
use Rattle.std.specs.Bool.{MatchBool}
use Rattle.std.specs.Fn.{Called, CalledAt}
use Rattle.std.specs.Iterator.{ChecksAny, FindsItem}
use Rattle.std.specs.Option.{MatchOption}
use Rattle.std.specs.Prelude.{Option, Some, None}
use Rattle.std.specs.List.{range_with_len, AllWithin, HoldsAt}
use Rattle.std.specs.declared.ops.Range.{Range}
use Rattle.std.proofs.iter.Yields.{nat_range_steps}
use Rattle.std.proofs.lemmas.Iterator.{YieldsList-from_range, cases_from_any, first_from_Range}
use Rattle.std.proofs.lemmas.List.FromFn.{length-range_with_len, get_or-range_with_len}
use Rattle.laws.specs.Find.{any, first_index}
use Rattle.laws.proofs.FindLaws.{any-true, any_false, index-none, index-here}
use Rattle.index.specs.Keys.{found_of}

record_at : (n k : ℕ) → k < n → get_or (range_with_len 0 n) k 0 ≡ k
record_at n k l = get_or-range_with_len 0 n k 0 l ∙ omega arith

-- ANY of the first n
any-said :
    (p : ℕ → Bool) (n : ℕ) (r : Bool)
    → MatchBool r ((k : ℕ) × (k < length (range_with_len 0 n)) × HoldsAt (λ x. p x ≡ true) (range_with_len 0 n) k)
    (AllWithin (λ x. p x ≡ false) (range_with_len 0 n) 0 (length (range_with_len 0 n)))
    → r ≡ any p n
any-said p n true (k, l, holds) =
    let u : k < n = omega (arith, length-range_with_len 0 n) in
    sym (any-true p n u (rw (record_at n k u) at (holds 0)))
any-said p n false none =
    sym (any_false p n (λ k l. rw (record_at n k l) at (none k 0 (omega arith) (omega (arith, length-range_with_len 0 n)))))

-- whether a test holds at one of them, where the code's n is m
pub any-chain :
    {F : Type 0} {g : Mut F (ℕ × Unit {0}) Bool} {u : Range ℕ} {f : F} {r : Bool} {n : ℕ} (p : ℕ → Bool) (m : ℕ) → n ≡ m
    → ChecksAny nat_range_steps g (record { start = 0; end = n }) f r u
    → ((x : ℕ) (t : Bool) (q : F) → Called g f (x, tt) t q → (q ≡ f) × (t ≡ p x)) → r ≡ any p m
any-chain {u = u} {f} {r} {n} p m e ran same =
    any-said p n r
    (cases_from_any u f r (λ x. p x ≡ true) (λ x. p x ≡ false) ran (YieldsList-from_range 0 n n refl (omega arith))
    (λ x q k. sym (same x true q k).1) (λ x q k. ((same x false q k).0, sym (same x false q k).1)))
    ∙ ap (any p) e

-- THE FIRST of the first n, as `find` answers it
first-said :
    (p : ℕ → Bool) (n : ℕ) (r : Option ℕ)
    → MatchOption r ((k : ℕ) → 0 ≤ k → k < n → p k ≡ false) (λ i. (0 ≤ i) × (i < n) × (p i ≡ true) × ((k : ℕ) → 0 ≤ k → k < i → p k ≡ false))
    → r ≡ found_of (first_index p n)
first-said p n None none = sym (ap found_of (index-none p n (λ k l. none k (omega arith) l)))
first-said p n (Some i) (low, l, here, before) = sym (ap found_of (index-here p n (index-none p i (λ k u. before k (omega arith) u)) l here))

pub first-chain :
    {F : Type 0} {g : Mut F (Bor ℕ × Unit {0}) Bool} {f : F} {r : Option ℕ} {n : ℕ} (p : ℕ → Bool) (u : Range ℕ)
    → FindsItem nat_range_steps g (record { start = 0; end = n }) f r u
    → ((x : ℕ) (t : Bool) (q : F) → CalledAt g f x t q → (q ≡ f) × (t ≡ p x)) → r ≡ found_of (first_index p n)
first-chain {f = f} {r} {n} p u ran same =
    first-said p n r
    (first_from_Range (record { start = 0; end = n }) u f r (λ x. p x ≡ true) (λ x. p x ≡ false) ran
    (λ x q k. sym (same x true q k).1) (λ x q k. ((same x false q k).0, sym (same x false q k).1)))
