-- `index::look::find` meets its contract. The last record up to `x` has the key `x`, or none has.
-- Assumes nothing.
use native.Mathlib.Omega.{arith}
use Rattle.index.proofs.LookLaws.{last-below, sought-at, sought-other, sought-nothing}
use Rattle.index.proofs.WayLaws.{find-nothing, find_at, find-other}
use Rattle.index.proofs.look.find.Goals as goal

pub returns-in_err-r : goal.returns-in_err-r
returns-in_err-r c = let f = c.last_in.ensures in rw c.from_residual.ensures (record { sought = sought-nothing _ _ _ f.last_in c.in_err-r.was; same = find-nothing _ _ _ _ f.same c.in_err-r.was })

pub offset_bounds-keys-r : goal.offset_bounds-keys-r
offset_bounds-keys-r c = omega (arith, last-below _ _ _ c.last_in.ensures.last_in c.in_ok-r.was, c.requires.ready)

pub bounds-keys-r : goal.bounds-keys-r
bounds-keys-r c = let h = last-below _ _ _ c.last_in.ensures.last_in c.in_ok-r.was in omega (arith, c.requires.ready)

pub returns-then-keys-r : goal.returns-then-keys-r
returns-then-keys-r c = let f = c.last_in.ensures in record { sought = sought-at _ _ _ f.last_in c.in_ok-r.was c.if-keys-r.true; same = find_at _ _ _ _ f.same c.in_ok-r.was c.if-keys-r.true }

pub returns-else-keys-r : goal.returns-else-keys-r
returns-else-keys-r c = let f = c.last_in.ensures in record { sought = sought-other _ _ _ f.last_in c.in_ok-r.was c.if-keys-r.false; same = find-other _ _ _ _ f.same c.in_ok-r.was c.if-keys-r.false }
