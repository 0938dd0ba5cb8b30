-- `field::words::lawful_text` meets its contract, by the first byte.
-- Assumes nothing.
use mathlib.Core.Path.{sym, ◌∙◌}
use Rattle.field.proofs.TextLaws.{first-trimmed, lawful-blank, lawful-text}
use Rattle.field.proofs.words.lawful_text.Goals as goal

pub returns-then-byte-eq32 : goal.returns-then-byte-eq32
returns-then-byte-eq32 c = c.all.ensures ∙ lawful-blank c.args.t.now (sym c.byte.ensures ∙ c.if-byte-eq32.true)

pub returns-else-byte-eq32 : goal.returns-else-byte-eq32
returns-else-byte-eq32 c = let t = c.args.t.now in
    simp (c.all-else-byte-eq32.ensures, c.edged_by.ensures, c.trimmed_len.ensures, first-trimmed t)
    (lawful-text t (λ e. c.if-byte-eq32.false (c.byte.ensures ∙ e)))
