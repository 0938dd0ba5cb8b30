-- `metadata::check::check_in` meets its contract.
-- Assumes nothing.
use mathlib.Core.Path.{ap, ◌∙◌}
use Rattle.std.proofs.lemmas.Result.{err_from_is_err_and}
use Rattle.metadata.specs.Lines.{told_in}
use Rattle.metadata.specs.Rules.{told_fault, cut_fault, fault_of}
use Rattle.metadata.proofs.check.check_in.Goals as goal

pub returns-in_err-n : goal.returns-in_err-n
unfolding fault_of
returns-in_err-n g c =
    let a = c.args in
    let p = err_from_is_err_and c.from_residual.result c.from_residual.ensures.1 in
    rw (p.1, p.2) (ap (cut_fault a.counts.now a.sizes.now (told_in a.m.now)) c.in_err-n.ensures.cut)

pub returns : goal.returns
unfolding fault_of
returns g c =
    let a = c.args in
    c.check_lines.ensures ∙ ap (told_fault a.counts.now a.sizes.now) c.in_ok-n.ensures.told ∙ ap (cut_fault a.counts.now a.sizes.now (told_in a.m.now)) c.in_ok-n.ensures.cut
