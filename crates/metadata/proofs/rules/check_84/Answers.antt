-- `metadata::rules::check_84` meets its contract.
-- Assumes nothing.
use Prim.Native.Nat.{◌+◌}
use mathlib.Core.Bool.{Bool, false}
use mathlib.Core.Path.{◌≡◌, sym, ap, ap₂, ◌∙◌}
use native.Mathlib.Omega.{arith}
use lib.ListN.{length, drop}
use Rattle.std.specs.Prelude.{Err}
use Rattle.metadata.specs.declared.fault.Rule.TheVariants.{OtherKeys84}
use Rattle.metadata.specs.Rules.{complete, is_file, line_at, breaks84}
use Rattle.metadata.proofs.LineLaws.{rest-is}
use Rattle.metadata.proofs.RuleLaws.{clear-more, found, unfound}
use Rattle.metadata.proofs.SectionLaws.{lack, search-past, again-is, lacks-84, again-84, clear-84}
use Rattle.metadata.proofs.rules.check_84.Goals as goal
use Rattle.metadata.proofs.rules.check_84.Goals.{else-is_file-via-then-is_file+else-not-is_complete, else-is_file-via-else-is_file, Joined-else-is_file}

pub loop-i-init : goal.loop-i-init
loop-i-init c = let ts = c.args.lines.now in (clear-84 ts, c.of-names.ensures ts, c.of-counts.ensures ts, c.of-sizes.ensures ts)

pub returns-then-not-is_complete : goal.returns-then-not-is_complete
returns-then-not-is_complete c =
    let l = c.loop-i in
    let ts = c.args.lines.now in
    let e : lack (is_file (line_at ts l.i)) (complete (drop (l.i + 1) ts)) ≡ lack c.is_file.result c.is_complete.result = sym (ap₂ lack c.is_file.ensures (c.is_complete.ensures ∙ ap complete (rest-is ts (l.i + 1)))) in
    ap Err c.at.ensures ∙ found OtherKeys84 (breaks84 ts) (length ts + 1) (l.i + 1) l.invariant.0 (omega arith) (lacks-84 ts l.i (e ∙ rw (c.if-is_file.true, c.if-not-is_complete.true)))

-- a section with all its keys, or no section
whole : (c : Joined-else-is_file) → lack (is_file (line_at c.args.lines.now c.loop-i.i)) (complete (drop (c.loop-i.i + 1) c.args.lines.now)) ≡ false
whole c =
    let l = c.loop-i in
    let ts = c.args.lines.now in
    elim c.else-is_file.branch [
      | else-is_file-via-then-is_file+else-not-is_complete w ↦
          ap₂ lack (sym c.is_file.ensures ∙ w.if-is_file.true) (sym (ap complete (rest-is ts (l.i + 1))) ∙ sym w.is_complete.ensures ∙ w.if-not-is_complete.false)
      | else-is_file-via-else-is_file w ↦ ap (λ (x : Bool). lack x (complete (drop (l.i + 1) ts))) (sym c.is_file.ensures ∙ w.if-is_file.false)
    ]

pub returns-then-is_again : goal.returns-then-is_again
returns-then-is_again c =
    let l = c.loop-i in
    let ts = c.args.lines.now in
    let e =
    again-84 ts l.i (whole (goal.at.returns-then-is_again c).Joined-else-is_file) (again-is ts l.i l.invariant.1 c.is_again.ensures) (again-is ts l.i l.invariant.2 c.is_again-in-loop-i.ensures)
    (again-is ts l.i l.invariant.3 c.is_again-in-loop-i-2.ensures) in
    ap Err c.at-then-is_again.ensures ∙ found OtherKeys84 (breaks84 ts) (length ts + 1) (l.i + 1) l.invariant.0 (omega arith) (sym e ∙ c.if-is_again.true)

pub loop-i-preserved : goal.loop-i-preserved
loop-i-preserved c =
    let l = c.loop-i in
    let ts = c.args.lines.now in
    let e =
    again-84 ts l.i (whole (goal.at.loop-i-preserved c).Joined-else-is_file) (again-is ts l.i l.invariant.1 c.is_again.ensures) (again-is ts l.i l.invariant.2 c.is_again-in-loop-i.ensures)
    (again-is ts l.i l.invariant.3 c.is_again-in-loop-i-2.ensures) in (
      clear-more (breaks84 ts) (l.i + 1) l.invariant.0 (sym e ∙ c.if-is_again.false),
      search-past ts l.i l.invariant.1 c.past-names.ensures,
      search-past ts l.i l.invariant.2 c.past-counts.ensures,
      search-past ts l.i l.invariant.3 c.past-sizes.ensures,
    )

pub returns : goal.returns
returns c =
    let l = c.loop-i in
    let ts = c.args.lines.now in
    let e : l.i ≡ length ts = omega arith in
    unfound OtherKeys84 (breaks84 ts) (length ts + 1) (rw e at l.invariant.0)
