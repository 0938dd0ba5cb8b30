-- `record::columns::letter_in` meets its contract: of a text that is not blank the first byte is never trimmed.
-- Assumes nothing.
use mathlib.Core.List.{[]}
use mathlib.Core.Logic.{inl, inr}
use mathlib.Core.Path.{refl, sym, ◌∙◌}
use Rattle.record.specs.Says.{letter_in}
use Rattle.record.proofs.SaysLaws.{none-sign, none_number, none-size, letter-text}
use Rattle.record.proofs.columns.letter_in.Goals as goal

pub returns-in-Sign : goal.returns-in-Sign
returns-in-Sign c = let a = c.args in
    elim c.in-Sign.is [
      | inl e ↦ none-sign a.t.now [] letter_in a.form e
      | inr q ↦
          elim q [
            | inl e ↦ none_number a.t.now [] letter_in a.form e (λ n. refl)
            | inr e ↦ none-size a.t.now [] letter_in a.form e (λ z. refl)
          ]
    ]

pub returns-in-Words : goal.returns-in-Words
returns-in-Words c = c.byte.ensures ∙ letter-text c.args.t.now [] c.in-Words.is (sym c.is_missing_in.ensures ∙ c.if-is_missing_in.false)
