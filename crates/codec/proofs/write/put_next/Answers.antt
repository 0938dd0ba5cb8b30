-- `codec::write::put_next` meets its contract.
-- Assumes nothing.
use Prim.Native.Nat.{ℕ, ◌+◌}
use mathlib.Core.Path.{ap}
use Rattle.codec.specs.machinery.Held.{held_at}
use Rattle.codec.proofs.WriteLaws.{next-put}
use Rattle.codec.proofs.write.put_next.Goals as goal

pub returns : goal.returns
returns c = let a = c.args in
    let w = c.width in
    let p = c.put_field in
    (ap (λ (n : ℕ). a.at + n + 1) c.width.ensures.value, next-put a.k (held_at a.h.now.numbers.now a.h.now.coordinates.now a.h.now.lengths.now a.h.now.texts.now) a.f a.at w.result a.buf.now c.put_field.new.part _ _ _ c.width.ensures.value c.form.ensures c.fields.ensures c.requires.1 c.put_field.auto.part p.ensures c.end_byte.ensures)
