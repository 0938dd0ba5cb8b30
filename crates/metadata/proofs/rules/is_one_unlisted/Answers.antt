-- `metadata::rules::is_one_unlisted` meets its contract.
-- Assumes nothing.
use mathlib.Core.Bool.{Bool, and-false}
use mathlib.Core.Path.{◌≡◌, sym, ap, ap₂, ◌∙◌}
use native.Mathlib.Omega.{arith}
use borrow.Author.Tests.{lt-ltb, le-ltb}
use Rattle.laws.proofs.FindLaws.{any-start, any_next}
use Rattle.metadata.specs.Rules.{listed, file_at, most_files}
use Rattle.metadata.proofs.SectionLaws.{Unlisted, unlisted_by, none-unlisted, one-unlisted}
use Rattle.metadata.proofs.rules.is_one_unlisted.Goals as goal
use Rattle.metadata.proofs.rules.is_one_unlisted.Goals.{else-of_file-gt0-via-then-of_file-gt0+else-not-is_listed, else-of_file-gt0-via-else-of_file-gt0}

pub loop-file-init : goal.loop-file-init
loop-file-init c = any-start _

pub returns-then-not-is_listed : goal.returns-then-not-is_listed
returns-then-not-is_listed c =
    let e = ap₂ unlisted_by c.of_file.ensures c.is_listed.ensures in
    one-unlisted c.args.counts.now c.args.lines.now c.loop-file-test.true (sym e ∙ rw (lt-ltb 0 c.of_file.result c.if-of_file-gt0.true, c.if-not-is_listed.true))

pub loop-file-preserved : goal.loop-file-preserved
loop-file-preserved c =
    let l = c.loop-file in
    let ts = c.args.lines.now in
    let kept : Unlisted c.args.counts.now ts l.file-index ≡ mathlib.Core.Bool.false =
    elim c.else-of_file-gt0.branch [
      | else-of_file-gt0-via-then-of_file-gt0+else-not-is_listed w ↦ sym (ap₂ unlisted_by c.of_file.ensures w.is_listed.ensures) ∙ rw (w.if-not-is_listed.false, and-false)
      | else-of_file-gt0-via-else-of_file-gt0 w ↦ sym (ap (λ n. unlisted_by n (listed ts (file_at l.file-index))) c.of_file.ensures) ∙ rw (le-ltb 0 c.of_file.result w.if-of_file-gt0.false)
    ] in
    any_next (Unlisted c.args.counts.now ts) l.invariant kept

pub returns : goal.returns
returns c =
    let e : c.loop-file.file-index ≡ most_files = omega arith in
    none-unlisted c.args.counts.now c.args.lines.now (rw e at c.loop-file.invariant)
