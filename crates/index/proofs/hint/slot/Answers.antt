-- `index::hint::slot` meets its contract. The loop's invariant: what is left of the look-up ends where the whole does.
-- Assumes nothing.
use native.Mathlib.Omega.{arith}
use Rattle.index.proofs.HintLaws.{probe_start, probe-empty, probe_found, probe-next, probe-none}
use Rattle.index.proofs.hint.slot.Goals as goal

pub loop-init : goal.loop-init
loop-init c = (c.wrap-at.ensures.within, omega arith, rw c.wrap-at.ensures.value (probe_start _ _ _))

pub returns-then-h-eq0 : goal.returns-then-h-eq0
returns-then-h-eq0 c = probe-empty _ _ _ _ _ _ c.hint_at-h.ensures _ (omega arith) c.if-h-eq0.true c.loop.invariant.2

pub returns-then-key_of-x : goal.returns-then-key_of-x
returns-then-key_of-x c = probe_found _ _ _ _ _ _ c.hint_at-h.ensures _ (omega arith) c.if-h-eq0.false c.key_of.ensures c.if-key_of-x.true
    c.loop.invariant.2

pub loop-preserved : goal.loop-preserved
loop-preserved c = (
  c.wrap-at-in-loop.ensures.within,
  omega arith,
  rw c.wrap-at-in-loop.ensures.value
      (probe-next _ _ _ _ _ _ c.hint_at-h.ensures _ _ (omega arith) c.if-h-eq0.false c.key_of.ensures c.if-key_of-x.false
      c.loop.invariant.2),
)

pub returns : goal.returns
returns c = probe-none _ _ _ _ _ _ (omega arith) c.loop.invariant.2
