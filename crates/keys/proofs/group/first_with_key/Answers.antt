-- `keys::group::first_with_key` meets its contract. The loop's invariant: no record before `j` has the key.
-- Assumes nothing.
use mathlib.Core.Path.{sym, ◌∙◌}
use Rattle.index.proofs.FoundLaws.{found-start}
use Rattle.keys.proofs.KeyCells.{named_here, named_more}
use Rattle.keys.proofs.group.first_with_key.Goals as goal

pub loop-j-init : goal.loop-j-init
loop-j-init c = found-start _ _

pub returns-then-record_key-x : goal.returns-then-record_key-x
returns-then-record_key-x c = named_here _ _ _ c.loop-j.invariant c.loop-j-test.true
    (sym c.record_key.ensures ∙ c.if-record_key-x.true)

pub loop-j-preserved : goal.loop-j-preserved
loop-j-preserved c = named_more _ _ _ c.loop-j.invariant c.loop-j-test.true
    (λ e. c.if-record_key-x.false (c.record_key.ensures ∙ e))
