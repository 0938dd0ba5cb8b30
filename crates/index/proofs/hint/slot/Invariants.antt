-- `index::hint::slot` meets its contract. The loop's invariant: what is left of the look-up ends where the whole does.
-- Assumes nothing.
use Prim.Native.Nat.{◌<◌, ◌≤◌, ◌-◌}
use mathlib.Core.Path.{◌≡◌}
use Rattle.index.specs.Hint.{probe, slot_of}
use Rattle.index.proofs.hint.slot.Given as goal

abbrev pub invariant-loop : goal.invariant-loop
invariant-loop l = (l.at < 32749) × (l.step ≤ 32719) × (probe l.keys l.hints l.x l.at l.step (32 - l.counter) ≡ slot_of l.keys l.hints l.x)
