-- `metadata::rules::check_lines` meets its contract.
-- Assumes nothing.
use mathlib.Core.Path.{sym, ◌∙◌}
use native.Mathlib.Omega.{arith}
use Rattle.std.proofs.lemmas.Result.{err_from_is_err_and}
use Rattle.metadata.proofs.RuleLaws.{kept-start, kept-more, fault-here, fault-last}
use Rattle.metadata.proofs.rules.check_lines.Goals as goal

pub returns-in_err-check_81 : goal.returns-in_err-check_81
returns-in_err-check_81 c =
    let a = c.args in
    let p = err_from_is_err_and c.from_residual.result c.from_residual.ensures.1 in
    let k0 = kept-start a.counts.now a.sizes.now a.lines.now in
    rw (p.1, p.2) (fault-here a.counts.now a.sizes.now a.lines.now 0 k0 (omega arith) (sym c.check_81.ensures ∙ c.in_err-check_81.was))

pub returns-in_err-check_82 : goal.returns-in_err-check_82
returns-in_err-check_82 c =
    let a = c.args in
    let p = err_from_is_err_and c.from_residual-in_err-check_82.result c.from_residual-in_err-check_82.ensures.1 in
    let k0 = kept-start a.counts.now a.sizes.now a.lines.now in
    let k1 = kept-more a.counts.now a.sizes.now a.lines.now 0 k0 (sym c.check_81.ensures ∙ c.in_ok-check_81.was) in
    rw (p.1, p.2) (fault-here a.counts.now a.sizes.now a.lines.now 1 k1 (omega arith) (sym c.check_82.ensures ∙ c.in_err-check_82.was))

pub returns-in_err-check_83 : goal.returns-in_err-check_83
returns-in_err-check_83 c =
    let a = c.args in
    let p = err_from_is_err_and c.from_residual-in_err-check_83.result c.from_residual-in_err-check_83.ensures.1 in
    let k0 = kept-start a.counts.now a.sizes.now a.lines.now in
    let k1 = kept-more a.counts.now a.sizes.now a.lines.now 0 k0 (sym c.check_81.ensures ∙ c.in_ok-check_81.was) in
    let k2 = kept-more a.counts.now a.sizes.now a.lines.now 1 k1 (sym c.check_82.ensures ∙ c.in_ok-check_82.was) in
    rw (p.1, p.2) (fault-here a.counts.now a.sizes.now a.lines.now 2 k2 (omega arith) (sym c.check_83.ensures ∙ c.in_err-check_83.was))

pub returns-in_err-check_84 : goal.returns-in_err-check_84
returns-in_err-check_84 c =
    let a = c.args in
    let p = err_from_is_err_and c.from_residual-in_err-check_84.result c.from_residual-in_err-check_84.ensures.1 in
    let k0 = kept-start a.counts.now a.sizes.now a.lines.now in
    let k1 = kept-more a.counts.now a.sizes.now a.lines.now 0 k0 (sym c.check_81.ensures ∙ c.in_ok-check_81.was) in
    let k2 = kept-more a.counts.now a.sizes.now a.lines.now 1 k1 (sym c.check_82.ensures ∙ c.in_ok-check_82.was) in
    let k3 = kept-more a.counts.now a.sizes.now a.lines.now 2 k2 (sym c.check_83.ensures ∙ c.in_ok-check_83.was) in
    rw (p.1, p.2) (fault-here a.counts.now a.sizes.now a.lines.now 3 k3 (omega arith) (sym c.check_84.ensures ∙ c.in_err-check_84.was))

pub returns-in_err-check_numbers : goal.returns-in_err-check_numbers
returns-in_err-check_numbers c =
    let a = c.args in
    let p = err_from_is_err_and c.from_residual-in_err-check_numbers.result c.from_residual-in_err-check_numbers.ensures.1 in
    let k0 = kept-start a.counts.now a.sizes.now a.lines.now in
    let k1 = kept-more a.counts.now a.sizes.now a.lines.now 0 k0 (sym c.check_81.ensures ∙ c.in_ok-check_81.was) in
    let k2 = kept-more a.counts.now a.sizes.now a.lines.now 1 k1 (sym c.check_82.ensures ∙ c.in_ok-check_82.was) in
    let k3 = kept-more a.counts.now a.sizes.now a.lines.now 2 k2 (sym c.check_83.ensures ∙ c.in_ok-check_83.was) in
    let k4 = kept-more a.counts.now a.sizes.now a.lines.now 3 k3 (sym c.check_84.ensures ∙ c.in_ok-check_84.was) in
    rw (p.1, p.2) (fault-here a.counts.now a.sizes.now a.lines.now 4 k4 (omega arith) (sym c.check_numbers.ensures ∙ c.in_err-check_numbers.was))

pub returns : goal.returns
returns c =
    let a = c.args in
    let k0 = kept-start a.counts.now a.sizes.now a.lines.now in
    let k1 = kept-more a.counts.now a.sizes.now a.lines.now 0 k0 (sym c.check_81.ensures ∙ c.in_ok-check_81.was) in
    let k2 = kept-more a.counts.now a.sizes.now a.lines.now 1 k1 (sym c.check_82.ensures ∙ c.in_ok-check_82.was) in
    let k3 = kept-more a.counts.now a.sizes.now a.lines.now 2 k2 (sym c.check_83.ensures ∙ c.in_ok-check_83.was) in
    let k4 = kept-more a.counts.now a.sizes.now a.lines.now 3 k3 (sym c.check_84.ensures ∙ c.in_ok-check_84.was) in
    let k5 = kept-more a.counts.now a.sizes.now a.lines.now 4 k4 (sym c.check_numbers.ensures ∙ c.in_ok-check_numbers.was) in
    c.check_numbers-2.ensures ∙ fault-last a.counts.now a.sizes.now a.lines.now k5
