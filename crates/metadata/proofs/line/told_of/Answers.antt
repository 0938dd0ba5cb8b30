-- `metadata::line::told_of` meets its contract.
-- Assumes nothing.
use mathlib.Core.Path.{sym, ap, ap₂, ◌∙◌}
use Prim.Native.Nat.{ℕ, ◌+◌, ◌≤◌}
use native.Mathlib.Omega.{arith}
use lib.ListN.{length, take, drop}
use borrow.Author.Tests.{ne_eqb, lt-ltb}
use Rattle.field.specs.Texts.{trimmed}
use Rattle.metadata.specs.Told.{unled, equals_at, key_told, told_of}
use Rattle.metadata.proofs.LineLaws.{front_long, key-part, key-long, rest-is}
use Rattle.metadata.proofs.line.told_of.Goals as goal

pub slice_bounds-key_told-end : goal.slice_bounds-key_told-end
slice_bounds-key_told-end c = let l : c.in-Some.p ≤ length c.args.t.now = omega (arith, c.in-Some.ensures.1) in
    front_long _ c.args.t.now (key-long c.args.t.now c.in-Some.p l c.trimmed_len-end.ensures)

pub returns-in-Some : goal.returns-in-Some
unfolding told_of
returns-in-Some c = let t = c.args.t.now in
    let p = c.in-Some in
    let l : p.p ≤ length t = omega (arith, p.ensures.1) in
    let key = key-part t p.p l c.trimmed_len-end.ensures ∙ ap (λ (n : ℕ). trimmed (take n t)) p.ensures.0 in
    let value = c.unled_part.ensures ∙ ap unled (rest-is t (p.p + 1) ∙ ap (λ (n : ℕ). drop (n + 1) t) p.ensures.0) in
    rw (ne_eqb _ 0 c.if-t-eq0.false, sym c.is_section.ensures ∙ c.if-is_section.false, lt-ltb (equals_at t) (length t) (omega (arith, p.ensures.0, p.ensures.1))) (c.key_told.ensures ∙ ap₂ key_told key value)
