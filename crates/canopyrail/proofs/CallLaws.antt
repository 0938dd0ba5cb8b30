-- The laws that the calls' proofs cite: the files that a call has, or that it has none, a reason's number, a number of a kind.
-- Assumes nothing.
use Prim.Native.Nat.{ℕ, ◌<◌}
use mathlib.Core.Bool.{true}
use mathlib.Core.List.{List, [], ◌∷◌, map}
use mathlib.Core.Path.{◌≡◌, refl, sym, ap, fun_ext, ◌∙◌}
use native.Mathlib.Omega.{arith}
use lib.Dec.{ltb}
use borrow.Author.Tests.{ltb-true}
use lib.ListN.{length, get_or}
use Rattle.record.specs.Table.{on_file, file_count}
use Rattle.laws.specs.Row.{row}
use Rattle.laws.proofs.RowLaws.{row_at}
use Rattle.record.specs.declared.kind.Kind.{Kind}
use Rattle.record.specs.Table.{Which}
use Rattle.std.specs.Prelude.{None, Some}
use Rattle.record.specs.declared.reason.Reason.{Reason}
use Rattle.record.specs.declared.reason.Reason.TheVariants as R
use Rattle.record.specs.declared.reason.Reason.TheVariants.{ShortRoom61}
use Rattle.record.specs.declared.reason.Break.{Break}
use Rattle.record.specs.Breaks.{Finding}
use Rattle.std.specs.Prelude.{Ok, Err}
use Rattle.record.specs.Files.{files_of}
use Rattle.record.specs.Breaks.{number_of}
use Rattle.record.proofs.TableLaws.{sane}
use Rattle.judge.specs.Verdict.{judged}
use Rattle.judge.proofs.Cases.{no-files}
use Rattle.canopyrail.specs.Answers.{answer_number, break_word, finding_word, refusal_word}

-- FILES of a list, as many as there are kinds
pub lent-files : (all files : List (List ℕ)) → all ≡ row (λ i. get_or files i []) file_count → files_of all ≡ files_of files
unfolding files_of
lent-files all files e = fun_ext (λ k. rw e (row_at (λ i. get_or files i []) file_count [] (omega (arith, sane k))))

-- where there is none, nothing is wrong
pub none_lent : {A : Type 0} (f : A → List ℕ) (l : List A) → length l ≡ 0 → 0 ≡ finding_word (judged (files_of (map f l)))
none_lent f [] e = sym (ap finding_word no-files)
none_lent f (x ∷ l) e = absurd (omega arith)

-- A REASON'S NUMBER is not 0, so neither is the answer that tells it
numbered : (reason : Reason) → ltb 0 (number_of reason) ≡ true
numbered R.LongFile10 = refl
numbered R.RaggedFile11 = refl
numbered R.BadEnd20 = refl
numbered R.NoBar21 = refl
numbered R.NotNumber22 = refl
numbered R.NotText23 = refl
numbered R.Missing24 = refl
numbered R.Outside25 = refl
numbered (R.SameKey30 x) = refl
numbered R.NoRecord40 = refl
numbered (R.OtherType41 x) = refl
numbered R.OrderGap50 = refl
numbered R.OrderAlone51 = refl
numbered R.StartElsewhere52 = refl
numbered R.EndElsewhere53 = refl
numbered (R.SamePlace54 x) = refl
numbered R.PointElsewhere55 = refl
numbered R.IdleNode56 = refl
numbered R.IdleObject57 = refl
numbered R.NodeType58 = refl
numbered R.NoLastVertex59 = refl
numbered R.NoFile60 = refl
numbered R.ShortRoom61 = refl
numbered R.TooLarge62 = refl
numbered R.BadText63 = refl
numbered R.Missing64 = refl
numbered R.Outside65 = refl
numbered R.NoSuchRecord66 = refl
numbered R.TooMany67 = refl
numbered R.UnknownSeason68 = refl
numbered R.IdleComposite70 = refl
numbered R.LongLine80 = refl
numbered R.OddLine81 = refl
numbered R.OtherVersion82 = refl
numbered R.OtherList83 = refl
numbered R.OtherKeys84 = refl
numbered R.OtherCount85 = refl
numbered R.OtherSize86 = refl

pub refusal-told : (reason : Reason) (field : ℕ) → refusal_word reason field ≡ 0 → ⊥
unfolding refusal_word answer_number
refusal-told reason field e =
    let l : 0 < number_of reason = ltb-true 0 (number_of reason) (numbered reason) in
    omega arith

pub break-told : (b : Break) → break_word b ≡ 0 → ⊥
unfolding break_word answer_number
break-told b e =
    let l : 0 < number_of b.reason = ltb-true 0 (number_of b.reason) (numbered b.reason) in
    omega arith

pub zero-fine : (v : Finding) → finding_word v ≡ 0 → v ≡ Ok tt
zero-fine (Ok u) e = refl
zero-fine (Err b) e = absurd (break-told b e)

-- A NUMBER OF A KIND
pub on_none : (g : Kind → ℕ) (w found : Which) → found ≡ w → found ≡ None → 0 ≡ on_file g w
unfolding on_file
on_none g w found e h = rw (sym e ∙ h)

pub on_some : (g : Kind → ℕ) (w found : Which) (k : Kind) {r : ℕ} → found ≡ w → found ≡ Some k → r ≡ g k → r ≡ on_file g w
unfolding on_file
on_some g w found k e h p = rw (sym e ∙ h) p
