-- `metadata::rules::check_83` meets its contract.
-- Assumes nothing.
use Prim.Native.Nat.{◌+◌, ◌≤◌}
use mathlib.Core.Path.{◌≡◌, sym, ap, ◌∙◌}
use native.Mathlib.Omega.{arith}
use lib.ListN.{length}
use Rattle.std.specs.Prelude.{Err, None}
use Rattle.metadata.specs.declared.fault.Rule.TheVariants.{OtherList83}
use Rattle.metadata.specs.Rules.{breaks83, rank_in}
use Rattle.metadata.proofs.RuleLaws.{clear-start, clear-more, found, unfound}
use Rattle.metadata.proofs.SectionLaws.{search-past, leads-is, top_start, top-stays, top-rises, no-83, misplaced-83, placed-83, clear-83}
use Rattle.metadata.proofs.rules.check_83.Goals as goal
use Rattle.metadata.proofs.rules.check_83.Goals.{then-is_first+in-Some+else-rank-top, else-is_first}

pub returns-then-is_one_unlisted : goal.returns-then-is_one_unlisted
returns-then-is_one_unlisted c =
    let p = breaks83 c.args.counts.now c.args.lines.now in
    ap Err c.at.ensures ∙ found OtherList83 p (length c.args.lines.now + 1) 0 (clear-start p) (omega arith) (sym c.is_one_unlisted.ensures ∙ c.if-is_one_unlisted.true)

pub loop-i-init : goal.loop-i-init
loop-i-init c =
    let ts = c.args.lines.now in
    (clear-83 c.args.counts.now ts (sym c.is_one_unlisted.ensures ∙ c.if-is_one_unlisted.false), c.of-names.ensures ts, top_start ts)

pub returns-in_default : goal.returns-in_default
returns-in_default c =
    let l = c.loop-i in
    let ts = c.args.lines.now in
    let e = sym (leads-is ts l.i l.invariant.1 c.is_first.ensures) ∙ c.if-is_first.true in
    let none : rank_in None ≤ l.top = omega arith in
    ap Err c.at-in_default.ensures ∙ found OtherList83 (breaks83 c.args.counts.now ts) (length ts + 1) (l.i + 1) l.invariant.0 (omega arith) (misplaced-83 l.invariant.2 c.args.counts.now e (sym c.in_default.is ∙ c.file.ensures) none)

pub returns-then-rank-top : goal.returns-then-rank-top
returns-then-rank-top c =
    let l = c.loop-i in
    let ts = c.args.lines.now in
    let e = sym (leads-is ts l.i l.invariant.1 c.is_first.ensures) ∙ c.if-is_first.true in
    ap Err c.at-then-rank-top.ensures ∙ found OtherList83 (breaks83 c.args.counts.now ts) (length ts + 1) (l.i + 1) l.invariant.0 (omega arith) (misplaced-83 l.invariant.2 c.args.counts.now e (sym c.in-Some.is ∙ c.file.ensures) (omega (arith, c.rank-rank.ensures, c.if-rank-top.true)))

pub loop-i-preserved : goal.loop-i-preserved
loop-i-preserved c =
    let l = c.loop-i in
    let ts = c.args.lines.now in
    let q = leads-is ts l.i l.invariant.1 c.is_first.ensures in
    elim c.if-is_first.branch [
      | then-is_first+in-Some+else-rank-top w ↦
          let e = sym q ∙ w.if-is_first.true in
          let f = sym w.in-Some.is ∙ w.file.ensures in
          let r = w.top-is ∙ w.rank-rank.ensures in (
            clear-more (breaks83 c.args.counts.now ts) (l.i + 1) l.invariant.0 (placed-83 l.invariant.2 c.args.counts.now e f (omega (arith, w.rank-rank.ensures, w.if-rank-top.false))),
            search-past ts l.i l.invariant.1 c.past-names.ensures,
            top-rises l.invariant.2 e (r ∙ ap rank_in f) (omega (arith, w.top-is, w.if-rank-top.false)),
          )
      | else-is_first w ↦
          let e = sym q ∙ w.if-is_first.false in (
            clear-more (breaks83 c.args.counts.now ts) (l.i + 1) l.invariant.0 (no-83 c.args.counts.now ts l.i e),
            search-past ts l.i l.invariant.1 c.past-names.ensures,
            rw w.top-is (top-stays l.invariant.2 e),
          )
    ]

pub returns : goal.returns
returns c =
    let l = c.loop-i in
    let ts = c.args.lines.now in
    let e : l.i ≡ length ts = omega arith in
    unfound OtherList83 (breaks83 c.args.counts.now ts) (length ts + 1) (rw e at l.invariant.0)
