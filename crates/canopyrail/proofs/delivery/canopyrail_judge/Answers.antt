-- `canopyrail::delivery::canopyrail_judge` meets its contract.
-- Assumes nothing.
use mathlib.Core.Path.{sym, ap, ◌∙◌}
use borrow.Author.Tests.{eqb-true}
use Rattle.record.specs.Files.{Files}
use Rattle.judge.specs.declared.judge.Verdict.{Verdict}
use Rattle.judge.specs.Verdict.{judged, verdict_of}
use Rattle.canopyrail.specs.Answers.{finding_word}
use Rattle.canopyrail.proofs.CallLaws.{none_lent}
use Rattle.canopyrail.proofs.delivery.canopyrail_judge.Goals as goal

pub returns-then-is_empty : goal.returns-then-is_empty
returns-then-is_empty c = none_lent (λ x. x.now) c.args.files.now (eqb-true _ 0 (sym c.if-is_empty.ensures))

pub returns : goal.returns
unfolding verdict_of
returns c = c.finding_word.ensures
    ∙ ap (λ (v : Verdict). finding_word v.finding) c.judge.ensures
    ∙ ap (λ (files : Files). finding_word (judged files)) c.all_files.ensures
