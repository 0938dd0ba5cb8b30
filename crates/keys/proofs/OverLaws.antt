-- The first of findings by their number, and over the files.
-- Assumes nothing.
use Prim.Native.Nat.{ℕ, ◌+◌, ◌<◌, ◌≤◌}
use mathlib.Core.Bool.{Bool, true, false}
use mathlib.Core.Option.{Option, none}
use mathlib.Core.Path.{◌≡◌, refl, sym, ap, ◌∙◌}
use native.Mathlib.Omega.{arith}
use Rattle.laws.specs.Find.{first_of}
use Rattle.laws.proofs.FindLaws.{first-start}
use Rattle.record.specs.declared.kind.Kind.{Kind}
use Rattle.record.specs.Table.{Which}
use Rattle.record.specs.declared.reason.Break.{Break}
use Rattle.record.specs.Breaks.{Finding}
use Rattle.std.specs.Prelude.{Ok, Err}
use Rattle.record.specs.Table.{which_of, file_count}
use Rattle.record.specs.Breaks.{finding_of}
use Rattle.record.proofs.FindingLaws.{finding-more, finding-here, finding-end}
use Rattle.keys.specs.machinery.Groups.{break_in, at_file, over_files}

-- OVER FINDINGS by their number
break-finding : (v : Finding) → v ≡ finding_of (break_in v)
break-finding (Ok u) = refl
break-finding (Err b) = refl

unfoldable break_at : (ℕ → Finding) → ℕ → Option Break
break_at g n = break_in (g n)

-- the invariant of a loop over m of them: those before number n give nothing
pub record Fines (g : ℕ → Finding) (m n : ℕ) : Type 0 where
  pub within : n ≤ m
  past : first_of (break_at g) n ≡ none

pub fines-start : (g : ℕ → Finding) (m : ℕ) → Fines g m 0
fines-start g m = record { within = omega arith; past = first-start _ }

module _ {g : ℕ → Finding} {m n : ℕ} (s : Fines g m n) where
  pub fines-end : m ≤ n → Ok tt ≡ finding_of (first_of (λ i. break_in (g i)) m)
  unfolding break_at
  fines-end l = finding-end (break_at g) m refl s.within l s.past

  -- number n gives nothing, or the break that is the answer
  pub fines_more : n < m → Ok tt ≡ g n → Fines g m (n + 1)
  unfolding break_at
  fines_more l e = record { within = omega arith; past = finding-more (break_at g) n (e ∙ break-finding _) s.past }

  pub fines-here : {b : Break} → n < m → Err b ≡ g n → Err b ≡ finding_of (first_of (λ i. break_in (g i)) m)
  unfolding break_at
  fines-here l e = finding-here (break_at g) m (e ∙ break-finding _) s.past l

-- OVER THE FILES: what a file's number gives
unfoldable file_at : (Kind → Finding) → ℕ → Finding
file_at g n = at_file g (which_of n)

pub record Onward (g : Kind → Finding) (n : ℕ) : Type 0 where
  past : Fines (file_at g) (file_count + 1) n

pub files-start : (g : Kind → Finding) → Onward g 0
files-start g = record { past = fines-start _ _ }

module _ {g : Kind → Finding} {n : ℕ} (s : Onward g n) where
  pub files-end : file_count < n → Ok tt ≡ over_files g
  unfolding over_files file_at
  files-end l = fines-end s.past l

  -- w is the kind of number n, where there is one
  module _ {w : Which} (l : n ≤ file_count) (e : w ≡ which_of n) where
    numbered : {v : Finding} → v ≡ at_file g w → v ≡ file_at g n
    unfolding file_at
    numbered h = h ∙ ap (at_file g) e

    pub files-more : Ok tt ≡ at_file g w → Onward g (n + 1)
    files-more h = record { past = fines_more s.past (omega arith) (numbered h) }

    pub files-here : {b : Break} → Err b ≡ at_file g w → Err b ≡ over_files g
    unfolding over_files file_at
    files-here h = fines-here s.past (omega arith) (numbered h)
