-- `index::hint::guess` meets its contract. A record is given only after its number and its key were tested, as the look-up by definition tests them.
-- Assumes nothing.
use Rattle.index.proofs.HintLaws.{guessed-at, guessed-nothing, guess-pointed, pointed-empty, pointed-past, pointed-short, pointed-other, pointed-at}
use native.Mathlib.Omega.{arith}
use Rattle.index.proofs.hint.guess.Goals as goal

pub returns-then-h-eq0 : goal.returns-then-h-eq0
returns-then-h-eq0 c = record { guessed = guessed-nothing _ _ _; same = guess-pointed _ _ _ _ c.slot.ensures c.hint_at-h.ensures (pointed-empty _ _ _ _ c.if-h-eq0.true) }

pub returns-then-n-j : goal.returns-then-n-j
returns-then-n-j c = record { guessed = guessed-nothing _ _ _; same = guess-pointed _ _ _ _ c.slot.ensures c.hint_at-h.ensures (pointed-past _ _ _ _ c.if-h-eq0.false c.if-n-j.true) }

pub returns-then-keys-j : goal.returns-then-keys-j
returns-then-keys-j c = record { guessed = guessed-nothing _ _ _; same = guess-pointed _ _ _ _ c.slot.ensures c.hint_at-h.ensures (pointed-short _ _ _ _ c.if-h-eq0.false c.if-n-j.false c.if-keys-j.true) }

pub returns-then-keys-j-2 : goal.returns-then-keys-j-2
returns-then-keys-j-2 c = record { guessed = guessed-at _ _ _ (omega arith) c.if-keys-j-2.true; same = guess-pointed _ _ _ _ c.slot.ensures c.hint_at-h.ensures (pointed-at _ _ _ _ c.if-h-eq0.false c.if-n-j.false c.if-keys-j.false c.if-keys-j-2.true) }

pub returns-else-keys-j-2 : goal.returns-else-keys-j-2
returns-else-keys-j-2 c = record { guessed = guessed-nothing _ _ _; same = guess-pointed _ _ _ _ c.slot.ensures c.hint_at-h.ensures (pointed-other _ _ _ _ c.if-h-eq0.false c.if-n-j.false c.if-keys-j.false c.if-keys-j-2.false) }
