-- `record::columns::key_in` meets its contract.
-- Assumes nothing.
use Prim.Native.Nat.{ℕ, ◌+◌}
use mathlib.Core.List.{[]}
use mathlib.Core.Logic.{inl, inr}
use mathlib.Core.Path.{refl, sym, ap, ◌∙◌}
use Rattle.record.specs.Says.{key_in}
use Rattle.record.proofs.SaysLaws.{none-sign, none-size, key-number, key-text}
use Rattle.record.proofs.columns.key_in.Goals as goal

pub returns-in-Number-clause-value : goal.returns-in-Number-clause-value
returns-in-Number-clause-value c = let a = c.args in
    ap (λ (n : ℕ). n + 1) c.number_in.ensures.value
    ∙ key-number a.t.now [] a.form c.in-Number.is (sym c.is_missing_in.ensures ∙ c.if-is_missing_in.false)

pub returns-in-Sign-clause-value : goal.returns-in-Sign-clause-value
returns-in-Sign-clause-value c = let a = c.args in
    elim c.in-Sign.is [ inl e ↦ none-sign a.t.now [] key_in a.form e | inr e ↦ none-size a.t.now [] key_in a.form e (λ z. refl) ]

pub returns-in-Words-clause-value : goal.returns-in-Words-clause-value
returns-in-Words-clause-value c =
    c.word.ensures ∙ key-text c.args.t.now [] c.in-Words.is (sym c.is_missing_in.ensures ∙ c.if-is_missing_in.false)
