-- `field::words::put_text` meets its contract: its three parts are the padded text's.
-- Assumes nothing.
use Prim.Native.Nat.{◌-◌}
use mathlib.Core.List.{◌++◌}
use mathlib.Core.Path.{◌≡◌, ◌∙◌}
use native.Mathlib.Omega.{arith}
use lib.ListN.{replicate, length}
use Rattle.std.proofs.lemmas.Grind.{common_steps}
use Rattle.field.proofs.TextLoops.{three_parts, parts-padded, written-parts}
use Rattle.field.proofs.words.put_text.Goals as goal

pub returns : goal.returns
returns c =
    let a = c.args in
    let p = a.part.now in
    let given = c.min-given.result in
    let there = c.min-there.result in
    let e : c.fill.new.self ≡ replicate (given - there) 0 = grind (arith, common_steps, c.fill.ensures.after (λ y q. q)) in
    let f : c.fill-2.new.self ≡ replicate (length p - given) 32 = grind (arith, common_steps, c.fill-2.ensures.after (λ y q. q)) in
    let parts : c.copy_bytes.new.part ++ (c.fill.new.self ++ c.fill-2.new.self) ≡ three_parts (length p) a.text.now given there = cc (e, f, c.copy_bytes.ensures) in
    written-parts p c.copy_bytes.new.part c.fill.new.self c.fill-2.new.self given there (grind (arith, common_steps)) (grind (arith, common_steps, e)) (omega arith) (omega arith)
    ∙ parts
    ∙ parts-padded (length p) a.len a.text.now given there (omega arith) (omega arith)
