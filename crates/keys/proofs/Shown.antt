-- The break that a group's finding shows: the reason that the group's list has for its number, with its data, at its record and field.
-- Assumes nothing.
use Prim.Native.Nat.{ℕ, ◌+◌, ◌-◌, ◌*◌, ◌/◌, ◌%◌}
use mathlib.Core.Path.{◌≡◌, sym, subst, ◌∙◌}
use native.Mathlib.Omega.{arith}
use lib.ListN.{get_or}
use Rattle.record.specs.declared.kind.Kind.{Kind}
use Rattle.record.specs.declared.reason.Reason.TheVariants.{LongFile10}
use Rattle.record.specs.declared.reason.Break.{Break}
use Rattle.std.specs.Prelude.{Err}
use Rattle.record.specs.Breaks.{number_of, break_of}
use Rattle.record.specs.Files.{Delivery}
use Rattle.keys.specs.Rules.{key_tests, key_reasons}
use Rattle.keys.specs.machinery.Findings.{keys_in}
use Rattle.keys.specs.machinery.Groups.{Tests, Reasons, cells_of, group_finding}
use Rattle.keys.specs.machinery.Cells.{cell_test}
use Rattle.keys.proofs.CellLaws.{some-cells, cell_answer, group-is}
use Rattle.keys.proofs.GroupMeaning.{Numbered, key-numbered, finding-some}

-- the break is that of the reasons' list at its own place and number
abbrev pub ShownBy : Reasons → Kind → Break → Type 0
ShownBy reasons k b =
    b ≡ break_of (get_or (reasons (b.«record» - 1) b.field) (number_of b.reason % 10) LongFile10) k b.«record» b.field

module _ (t : ℕ) (tests : ℕ → Tests) (reasons : Reasons) (k : Kind) (m : ℕ) where
  -- of record i and cell c, whose reason has its number
  cell-shown : (i c : ℕ) → number_of (cell_answer reasons k i c).reason ≡ t * 10 + c % 10 → ShownBy reasons k (cell_answer reasons k i c)
  unfolding cell_answer
  cell-shown i c e =
      let x : i + 1 - 1 ≡ i = omega arith in
      let y : number_of (get_or (reasons i (c / 10)) (c % 10) LongFile10) % 10 ≡ c % 10 = omega arith in
      rw (x, y)

  pub group-shown : Numbered t tests reasons k m → {b : Break} → group_finding (tests t) reasons k m ≡ Err b → ShownBy reasons k b
  unfolding cell_test cell_answer
  group-shown numbered {b} e =
      let r = some-cells (cell_test (tests t)) (cell_answer reasons k) m (cells_of k) (finding-some _ (sym (group-is (tests t) reasons k m) ∙ e)) in
      let i = r.0 in
      let c = r.1 in
      subst (λ (x : Break). ShownBy reasons k x) r.3 (cell-shown i c (numbered i (c / 10) (c % 10) (omega arith) r.2.holds))

pub keys-shown : (t : ℕ) (d : Delivery) (k : Kind) {b : Break} → keys_in t d k ≡ Err b → ShownBy (key_reasons t d k) k b
unfolding keys_in
keys-shown t d k e = group-shown t (λ t'. key_tests t' d k) (key_reasons t d k) k (d k).count (key-numbered t d k) e
