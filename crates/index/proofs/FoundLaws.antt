-- The laws of a loop that searches: it answers the first index at which a test holds, or whether there is one.
-- Assumes nothing.
use Prim.Native.Nat.{ℕ, ◌+◌, ◌<◌, ◌≤◌}
use mathlib.Core.Bool.{Bool, true, false, not}
use mathlib.Core.Option.{none, some}
use mathlib.Core.Option as math
use mathlib.Core.Path.{◌≡◌, refl, sym, ap, ◌∙◌}
use native.Mathlib.Omega.{arith}
use Rattle.laws.specs.Find.{first_index, any}
use Rattle.laws.proofs.FindLaws.{is_some, any-index, index-start, index-more, index-here, index-end, any_here, any_none, index-none}
use mathlib.Core.List.{List}
use lib.ListN.{length, get_or, take}
use Rattle.std.proofs.lemmas.List.{length-take-le, get_or-take}
use borrow.Author.Tests.{lt-ltb, le-ltb}
use Rattle.index.proofs.OrderLaws.{less-or}
use mathlib.Core.Logic.{⊎_elim}
use Rattle.std.specs.List.{position, position_or_len}
use Rattle.std.proofs.lemmas.List.Sums.{prefix_len-le-length, fails_before_first, passes_at_first}
use Rattle.index.specs.Keys.{found_of}
use Rattle.std.specs.Prelude.{Option, Some, None}

-- the loop's invariant: i indices of n are passed, and the test holds at none of them
pub record Passed (p : ℕ → Bool) (n i : ℕ) : Type 0 where
  pub under : i ≤ n
  pub past : first_index p i ≡ none

pub found-start : (p : ℕ → Bool) (n : ℕ) → Passed p n 0
found-start p n = record { under = omega arith; past = index-start p }

module _ {p : ℕ → Bool} {n i : ℕ} (s : Passed p n i) where
  pub found-more : i < n → p i ≡ false → Passed p n (i + 1)
  found-more l here = record { under = omega arith; past = index-more p s.past here }

  -- the answers, where the code's n is m
  module _ {m : ℕ} (e : n ≡ m) where
    pub found_here : i < n → p i ≡ true → Some i ≡ found_of (first_index p m)
    found_here l here = ap found_of (sym (index-here p m s.past (omega arith) here))

    pub found-end : n ≤ i → None ≡ found_of (first_index p m)
    found-end u = ap found_of (sym (index-end p m e s.under u s.past))

    pub any_found : i < n → p i ≡ true → true ≡ any p m
    any_found l here = sym (any_here p m s.past (omega arith) here)

    pub any-end : n ≤ i → false ≡ any p m
    any-end u = sym (any_none p m (index-end p m e s.under u s.past))

-- THE LIBRARY'S SEARCH of a list's first n numbers answers the same
module _ (p : ℕ → Bool) (xs : List ℕ) (n : ℕ) (l : n ≤ length xs) where
  abbrev over : ℕ → Bool
  over i = p (get_or xs i 0)

  abbrev end_of : ℕ
  end_of = position_or_len p (take n xs)

  long : length (take n xs) ≡ n
  long = length-take-le n xs l

  short : end_of ≤ n
  short = omega (arith, prefix_len-le-length (λ x. not (p x)) (take n xs), long)

  at_end : {k : ℕ} {t : Bool} → k < n → p (get_or (take n xs) k 0) ≡ t → over k ≡ t
  at_end {k} lk e = rw get_or-take at e

  before-end : first_index over end_of ≡ none
  before-end = index-none over end_of (λ k lk. at_end (omega (arith, short)) (fails_before_first p (take n xs) k 0 lk))

  pub position-found : position p (take n xs) ≡ found_of (first_index over n)
  position-found =
      ⊎_elim
      (λ (h : end_of < n).
      let inside : end_of < length (take n xs) = omega (arith, long) in
      rw (lt-ltb end_of (length (take n xs)) inside) (ap found_of (sym (index-here over n before-end h (at_end h (passes_at_first p (take n xs) 0 inside))))))
      (λ (h : n ≤ end_of).
      rw (le-ltb end_of (length (take n xs)) (omega (arith, long))) (ap found_of (sym (index-end over n refl short h before-end))))
      (less-or end_of n)

found_none : (o : math.Option ℕ) → found_of o ≡ None → is_some o ≡ false
found_none none e = refl
found_none (some k) e = let z : ◌≡◌ {A = ℕ} 0 1 = cc in absurd (omega arith)

module _ (p : ℕ → Bool) (n : ℕ) {f : Option ℕ} (e : f ≡ found_of (first_index p n)) where
  pub any-of-nothing : f ≡ None → any p n ≡ false
  any-of-nothing q = any-index p n ∙ found_none (first_index p n) (sym e ∙ q)
