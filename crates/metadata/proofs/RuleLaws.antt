-- Searches of lines: a test of each line, what a search tells, and what a section has.
-- Assumes nothing.
use Prim.Native.Nat.{ℕ, zero, suc, ◌+◌, ◌<◌, ◌≤◌}
use mathlib.Core.Bool.{Bool, true, false, ◌||◌}
use mathlib.Core.List.{List}
use mathlib.Core.Logic.{⊎_elim}
use mathlib.Core.Option.{Option, none, some}
use mathlib.Core.Path.{◌≡◌, refl, sym, ap, ◌∙◌}
use native.Mathlib.Nat.{le_refl, eq-or-lt_of_le, le_of_suc-le-suc, not-suc-le-zero}
use native.Mathlib.Numerals.{add-one}
use native.Mathlib.Omega.{arith}
use lib.ListN.{length, drop, drop_of_length-le}
use lib.Seq.{drop-cons}
use Rattle.std.specs.Prelude
use Rattle.std.specs.Prelude.{Result, Ok, Err, None}
use Rattle.laws.specs.Find.{first_of, first_index, any}
use Rattle.laws.proofs.FindLaws.{first-start, first_more, first-here, index-here, index-none, any-true, any-more, any-start, true-false}
use Rattle.metadata.specs.declared.told.File.{File}
use Rattle.metadata.specs.declared.told.Told.{Told}
use Rattle.metadata.specs.declared.told.Told.TheVariants.{Nothing, Version, Name}
use Rattle.metadata.specs.declared.fault.Rule.{Rule}
use Rattle.metadata.specs.declared.fault.Rule.TheVariants.{OtherVersion82}
use Rattle.metadata.specs.declared.fault.Fault.{Fault}
use Rattle.metadata.specs.Faults.{at_line, fault_at, or_right, ruled}
use Rattle.metadata.specs.Rules.{is_nothing, is_head, is_version, is_wrong, is_name, file_told, line_at, met, named, breaks81, breaks82, breaks, rule_of, told_fault}

-- A SEARCH: no line before l breaks the rule
abbrev pub Clear : (ℕ → Bool) → ℕ → Type 0
Clear p l = (j : ℕ) → j < l → p j ≡ false

pub clear-start : (p : ℕ → Bool) → Clear p 0
clear-start p j l = absurd (not-suc-le-zero l)

pub clear-more : (p : ℕ → Bool) (l : ℕ) → Clear p l → p l ≡ false → Clear p (l + 1)
clear-more p l h e j m = ⊎_elim (λ (q : j ≡ l). rw q e) (λ (k : j < l). h j k) (eq-or-lt_of_le (le_of_suc-le-suc (below m)))
  where
    below : j < l + 1 → suc j ≤ suc l
    below m = omega arith

module _ (rule : Rule) (p : ℕ → Bool) (n : ℕ) where
  pub found : (l : ℕ) → Clear p l → l < n → p l ≡ true → Err (at_line rule l) ≡ ruled rule p n
  found l h k e = sym (ap (λ (o : Option ℕ). or_right (fault_at rule o)) (index-here p n (index-none p l h) k e))

  pub unfound : Clear p n → Ok tt ≡ ruled rule p n
  unfound h = sym (ap (λ (o : Option ℕ). or_right (fault_at rule o)) (index-none p n h))

-- 81
module _ (ts : List Told) (i : ℕ) where
  pub is-81 : breaks81 ts (i + 1) ≡ is_nothing (line_at ts i)
  unfolding breaks81
  is-81 = rw add-one

  pub is-82 : breaks82 ts (i + 1) ≡ is_wrong (line_at ts i)
  unfolding breaks82
  is-82 = rw add-one

pub clear-81 : (ts : List Told) → Clear (breaks81 ts) 1
unfolding breaks81
clear-81 ts zero l = refl
clear-81 ts (suc j) l = absurd (omega arith)

-- 82: the lines before i, and whether one of them has a version
pub record Versions (ts : List Told) (some : Bool) (i : ℕ) : Type 0 where
  pub right : (j : ℕ) → j < i → is_wrong (line_at ts j) ≡ false
  pub told : some ≡ any (λ j. is_version (line_at ts j)) i

pub versions-start : (ts : List Told) → Versions ts false 0
versions-start ts = record { right = λ j l. absurd (not-suc-le-zero l); told = sym (any-start _) }

wrong-version : (t : Told) → is_wrong t ≡ true → is_version t ≡ true
wrong-version (Version one) e = refl
wrong-version _ e = absurd (true-false (sym e))

-- a line that is none of a kind
pub none_told : (t : Told) → ((one : Bool) → t ≡ Version one → ⊥) → (is_wrong t ≡ false) × (is_version t ≡ false)
none_told (Version one) h = absurd (h one refl)
none_told _ h = (refl, refl)

pub no_name : (t : Told) → ((file : Prelude.Option File) → t ≡ Name file → ⊥) → is_name t ≡ false
no_name (Name file) h = absurd (h file refl)
no_name _ h = refl

module _ {ts : List Told} {some : Bool} {i : ℕ} (v : Versions ts some i) where
  pub versions-more : {x : Bool} → is_wrong (line_at ts i) ≡ false → x ≡ (some || is_version (line_at ts i)) → Versions ts x (i + 1)
  versions-more w e = record { right = clear-more (λ j. is_wrong (line_at ts j)) i v.right w; told = rw (e, v.told) (sym (any-more (λ j. is_version (line_at ts j)) i)) }

  clear-82 : any (λ j. is_version (line_at ts j)) (length ts) ≡ true → Clear (breaks82 ts) (i + 1)
  unfolding breaks82
  clear-82 h zero l = rw h
  clear-82 h (suc j) l = v.right j (omega arith)

  pub wrong-here : is_wrong (line_at ts i) ≡ true → i < length ts → Err (at_line OtherVersion82 (i + 1)) ≡ ruled OtherVersion82 (breaks82 ts) (length ts + 1)
  wrong-here w l = found OtherVersion82 (breaks82 ts) (length ts + 1) (i + 1) (clear-82 (any-true (λ j. is_version (line_at ts j)) (length ts) l (wrong-version (line_at ts i) w))) (omega arith) (is-82 ts i ∙ w)

module _ {ts : List Told} {some : Bool} (v : Versions ts some (length ts)) where
  pub all_right : some ≡ true → Ok tt ≡ ruled OtherVersion82 (breaks82 ts) (length ts + 1)
  all_right h = unfound OtherVersion82 (breaks82 ts) (length ts + 1) (clear-82 v (sym v.told ∙ h))

  pub no-version : some ≡ false → Err (at_line OtherVersion82 0) ≡ ruled OtherVersion82 (breaks82 ts) (length ts + 1)
  unfolding breaks82
  no-version h = found OtherVersion82 (breaks82 ts) (length ts + 1) 0 (clear-start _) (omega arith) (rw (sym v.told ∙ h))

-- WHAT A SECTION HAS: the lines up to i are passed
module _ (p : Told → Bool) (ts : List Told) (i : ℕ) where
  module _ (l : i < length ts) where
    pub met-head : is_head (line_at ts i) ≡ true → met p (drop i ts) ≡ false
    unfolding met
    met-head e = rw (drop-cons ts i Nothing l, e)

    pub met-here : is_head (line_at ts i) ≡ false → p (line_at ts i) ≡ true → met p (drop i ts) ≡ true
    unfolding met
    met-here e q = rw (drop-cons ts i Nothing l, e, q)

    pub met-more : is_head (line_at ts i) ≡ false → p (line_at ts i) ≡ false → met p (drop (i + 1) ts) ≡ met p (drop i ts)
    unfolding met
    met-more e q = rw (drop-cons ts i Nothing l, e, q, add-one)

pub met-end : (p : Told → Bool) (ts : List Told) → met p (drop (length ts) ts) ≡ false
unfolding met
met-end p ts = rw (drop_of_length-le ts (le_refl (length ts)))

module _ (ts : List Told) (i : ℕ) where
  module _ (l : i < length ts) where
    pub named-head : is_head (line_at ts i) ≡ true → None ≡ named (drop i ts)
    unfolding named
    named-head e = rw (drop-cons ts i Nothing l, e)

    pub named_here : is_head (line_at ts i) ≡ false → is_name (line_at ts i) ≡ true → file_told (line_at ts i) ≡ named (drop i ts)
    unfolding named
    named_here e q = rw (drop-cons ts i Nothing l, e, q)

    pub named_more : is_head (line_at ts i) ≡ false → is_name (line_at ts i) ≡ false → named (drop (i + 1) ts) ≡ named (drop i ts)
    unfolding named
    named_more e q = rw (drop-cons ts i Nothing l, e, q, add-one)

pub named_end : (ts : List Told) → None ≡ named (drop (length ts) ts)
unfolding named
named_end ts = rw (drop_of_length-le ts (le_refl (length ts)))

-- THE FIRST FAULT: what a search tells
module _ (rule : Rule) (p : ℕ → Bool) (n : ℕ) where
  pub ruled-right : ruled rule p n ≡ Ok tt → first_index p n ≡ none
  ruled-right = go (first_index p n)
    where
      go : (o : Option ℕ) → or_right (fault_at rule o) ≡ Ok tt → o ≡ none
      go none e = refl
      go (some l) e = cc

  pub ruled-fault : {fault : Fault} → ruled rule p n ≡ Err fault → fault_at rule (first_index p n) ≡ some fault
  ruled-fault {fault} = go (first_index p n)
    where
      go : (o : Option ℕ) → or_right (fault_at rule o) ≡ Err fault → fault_at rule o ≡ some fault
      go none e = cc
      go (some l) e = cc

abbrev pub fault_by : List ℕ → List ℕ → List Told → ℕ → Option Fault
fault_by counts sizes ts k = fault_at (rule_of k) (first_index (breaks counts sizes ts k) (length ts + 1))

module _ (counts sizes : List ℕ) (ts : List Told) where
  -- no rule before 81 + k is broken
  abbrev pub Kept : ℕ → Type 0
  Kept k = first_of (fault_by counts sizes ts) k ≡ none

  pub kept-start : Kept 0
  kept-start = first-start (fault_by counts sizes ts)

  pub kept-more : (k : ℕ) → Kept k → ruled (rule_of k) (breaks counts sizes ts k) (length ts + 1) ≡ Ok tt → Kept (k + 1)
  kept-more k h e = first_more (fault_by counts sizes ts) h (ap (fault_at (rule_of k)) (ruled-right (rule_of k) (breaks counts sizes ts k) (length ts + 1) e))

  pub fault-here : (k : ℕ) {fault : Fault} → Kept k → k < 6 → ruled (rule_of k) (breaks counts sizes ts k) (length ts + 1) ≡ Err fault → Err fault ≡ told_fault counts sizes ts
  unfolding told_fault
  fault-here k h l e = sym (ap or_right (first-here (fault_by counts sizes ts) 6 h l (ruled-fault (rule_of k) (breaks counts sizes ts k) (length ts + 1) e)))

  -- where all but the last are kept, it tells
  pub fault-last : Kept 5 → ruled (rule_of 5) (breaks counts sizes ts 5) (length ts + 1) ≡ told_fault counts sizes ts
  unfolding told_fault
  fault-last h = go (first_index (breaks counts sizes ts 5) (length ts + 1)) refl
    where
      go : (o : Option ℕ) → first_index (breaks counts sizes ts 5) (length ts + 1) ≡ o → or_right (fault_at (rule_of 5) o) ≡ or_right (first_of (fault_by counts sizes ts) 6)
      go none e = sym (ap or_right (first_more (fault_by counts sizes ts) h (ap (fault_at (rule_of 5)) e)))
      go (some l) e = sym (ap or_right (first-here (fault_by counts sizes ts) 6 h (omega arith) (ap (fault_at (rule_of 5)) e)))
