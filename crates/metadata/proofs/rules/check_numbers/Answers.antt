-- `metadata::rules::check_numbers` meets its contract.
-- Assumes nothing.
use Prim.Native.Nat.{◌+◌}
use mathlib.Core.Path.{◌≡◌, sym, ap, ◌∙◌}
use native.Mathlib.Omega.{arith}
use lib.ListN.{length}
use Rattle.std.specs.Prelude.{Err}
use Rattle.metadata.specs.Rules.{differs, named}
use Rattle.metadata.specs.Searches.{is_key}
use Rattle.metadata.proofs.LineLaws.{rest-is}
use Rattle.metadata.proofs.RuleLaws.{clear-more, found, unfound}
use Rattle.metadata.proofs.SectionLaws.{search-past, leads-is, is-differing, clear-differs, file-start, file-head, file-more}
use Rattle.metadata.proofs.rules.check_numbers.Goals as goal
use Rattle.metadata.proofs.rules.check_numbers.Goals.{then-is_head, else-is_head}

pub loop-i-init : goal.loop-i-init
loop-i-init c = let ts = c.args.lines.now in (clear-differs (is_key c.args.key) c.args.numbers.now ts, c.of-search.ensures ts, file-start ts)

pub returns-then-is_first-gives : goal.returns-then-is_first-gives
returns-then-is_first-gives c =
    let l = c.loop-i in
    let ts = c.args.lines.now in
    let p = is_key c.args.key in
    let e = is-differing p c.args.numbers.now ts l.i (leads-is ts l.i l.invariant.1 c.is_first.ensures) l.invariant.2 c.of_file.ensures c.gives.ensures in
    ap Err c.at.ensures ∙ found c.args.rule (differs p c.args.numbers.now ts) (length ts + 1) (l.i + 1) l.invariant.0 (omega arith) (sym e ∙ c.if-is_first-gives.true)

pub loop-i-preserved : goal.loop-i-preserved
loop-i-preserved c =
    let l = c.loop-i in
    let ts = c.args.lines.now in
    let p = is_key c.args.key in
    let e = is-differing p c.args.numbers.now ts l.i (leads-is ts l.i l.invariant.1 c.is_first.ensures) l.invariant.2 c.of_file.ensures c.gives.ensures in (
      clear-more (differs p c.args.numbers.now ts) (l.i + 1) l.invariant.0 (sym e ∙ c.if-is_first-gives.false),
      search-past ts l.i l.invariant.1 c.past-search.ensures,
      elim c.if-is_head.branch [
        | then-is_head w ↦ w.file-is ∙ w.named_in-file.ensures ∙ ap named (rest-is ts (l.i + 1)) ∙ file-head ts l.i (sym c.is_head.ensures ∙ w.if-is_head.true)
        | else-is_head w ↦ w.file-is ∙ l.invariant.2 ∙ file-more ts l.i (sym c.is_head.ensures ∙ w.if-is_head.false)
      ],
    )

pub returns : goal.returns
returns c =
    let l = c.loop-i in
    let ts = c.args.lines.now in
    let e : l.i ≡ length ts = omega arith in
    unfound c.args.rule (differs (is_key c.args.key) c.args.numbers.now ts) (length ts + 1) (rw e at l.invariant.0)
