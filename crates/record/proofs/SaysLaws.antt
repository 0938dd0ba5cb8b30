-- What the code reads of a field, by its form: what it says (specs/Says.antt), its rules (specs/Rules.antt).
-- Assumes nothing.
use Prim.Native.Nat.{ℕ, zero, suc, ◌+◌}
use mathlib.Core.Bool.{Bool, true, false, not, ◌&&◌}
use mathlib.Core.List.{List, [], ◌∷◌}
use mathlib.Core.Logic.{◌⊎◌, inl, inr}
use mathlib.Core.Path.{◌≡◌, refl, sym, ap, ◌∙◌}
use native.Mathlib.Omega.{arith}
use borrow.Author.Tests.{ne_eqb}
use denote.Enum.Declared.{tag_of}
use types.Run.{OneOf, miss}
use lib.Dec.{eqb}
use lib.IntN.{ℤ}
use lib.ListN.{get_or}
use Rattle.laws.specs.Row.{pick}
use Rattle.laws.proofs.FindLaws.{true-false}
use Rattle.field.specs.declared.class.Class.TheVariants.{Blank}
use Rattle.field.specs.Bytes.{all_of}
use Rattle.field.specs.Digits.{number_written}
use Rattle.field.specs.Signs.{signed}
use Rattle.field.specs.Texts.{trimmed, word_of}
use Rattle.field.proofs.DigitLaws.{blank-number}
use Rattle.field.proofs.TextLaws.{trimmed-first, trimmed-some}
use Rattle.record.specs.declared.kind.Form.{Form}
use Rattle.record.specs.declared.kind.Form.TheVariants.{Words, Code, Sign, Number, Size}
use Rattle.record.specs.Table.{is_n}
use Rattle.record.specs.Says.{Said, missing, number, text, coordinate, said_as, is_missing, number_in, key_in, letter_in, place_of, place_in, text_said}
use Rattle.record.specs.contracts.kind.Form.{the_type}

-- FORMS of an arm of a `match`, by their places in the enum
abbrev pub Among : List ℕ → Form → Type 0
Among ks form = OneOf ks (tag_of the_type form)

abbrev pub texts : List ℕ
texts = 0 ∷ 1 ∷ []

-- a field that is blank says nothing
picked : {A : Type 0} (g : Said → A) (a : A) (b : Bool) (x : Said) → (b ≡ true → a ≡ g missing) → (b ≡ false → a ≡ g x) → a ≡ g (pick b missing x)
picked g a true x p q = p refl
picked g a false x p q = q refl

-- and a field that says something is not blank
there : (b : Bool) (x s : Said) → s ≡ pick b missing x → is_missing s ≡ false → (b ≡ false) × (s ≡ x)
there true x s e m = absurd (true-false (ap is_missing (sym e) ∙ m))
there false x s e m = (refl, e)

said-gone : {A : Type 0} (g : Said → A) (x : Said) → is_missing x ≡ true → g missing ≡ g x
said-gone g missing e = refl
said-gone g (number n) e = absurd (true-false (sym e))
said-gone g (text t) e = absurd (true-false (sym e))
said-gone g (coordinate z) e = absurd (true-false (sym e))

-- a coordinate's place, from its sign and its size
place-code : (minus : Bool) (n : ℕ) → pick (minus && not (eqb n 0)) (n + n) (n + n + 1) ≡ place_of (signed minus n)
place-code false n = refl
place-code true zero = refl
place-code true (suc n) = rw (ne_eqb (suc n) 0 (λ e. omega arith)) (omega arith)

module _ (t b : List ℕ) where
  said-missing : (x : Said) → is_missing x ≡ false → all_of Blank t ≡ is_missing (pick (all_of Blank t) missing x)
  said-missing x h = picked is_missing (all_of Blank t) (all_of Blank t) x (λ e. e) (λ e. e ∙ sym h)

  said-none : {A : Type 0} (g : Said → A) (x : Said) → g missing ≡ g x → g missing ≡ g (pick (all_of Blank t) missing x)
  said-none g x h = picked g (g missing) (all_of Blank t) x (λ e. refl) (λ e. h)

  -- MISSING
  pub missing-sign : (form : Form) → form ≡ Sign → true ≡ is_missing (said_as form t b)
  unfolding said_as
  missing-sign form e = rw e

  pub missing-other : (form : Form) → (form ≡ Sign → ⊥) → all_of Blank t ≡ is_missing (said_as form t b)
  unfolding said_as
  missing-other Words h = said-missing _ refl
  missing-other Code h = said-missing _ refl
  missing-other Sign h = absurd (h refl)
  missing-other Number h = said-missing _ refl
  missing-other Size h = said-missing _ refl

  -- NUMBERS
  pub number-said : (form : Form) → form ≡ Number → number_written t ≡ number_in (said_as form t b)
  unfolding said_as
  number-said form e = rw e (picked number_in (number_written t) (all_of Blank t) (number (number_written t)) (blank-number t) (λ _. refl))

  pub no_number_lem : (form : Form) → (form ≡ Number → ⊥) → 0 ≡ number_in (said_as form t b)
  unfolding said_as
  no_number_lem Words h = said-none number_in _ refl
  no_number_lem Code h = said-none number_in _ refl
  no_number_lem Sign h = refl
  no_number_lem Number h = absurd (h refl)
  no_number_lem Size h = said-none number_in _ refl

  -- a reader g has of a field of another form what it has where nothing is said
  no_size_lem : {A : Type 0} (g : Said → A) → ((n : ℕ) → g missing ≡ g (number n)) → ((l : List ℕ) → g missing ≡ g (text l)) → (form : Form) → (form ≡ Size → ⊥)
      → g missing ≡ g (said_as form t b)
  unfolding said_as
  no_size_lem g n l Words h = said-none g _ (l _)
  no_size_lem g n l Code h = said-none g _ (l _)
  no_size_lem g n l Sign h = refl
  no_size_lem g n l Number h = said-none g _ (n _)
  no_size_lem g n l Size h = absurd (h refl)

  pub no_place : (form : Form) → (form ≡ Size → ⊥) → 0 ≡ place_in (said_as form t b)
  no_place = no_size_lem place_in (λ _. refl) (λ _. refl)

  -- PLACES of a coordinate that is not missing; the code's test is of a minus before a number that is not zero
  pub place-said : (form : Form) → form ≡ Size → is_missing (said_as form t b) ≡ false → place_of (signed (eqb (get_or b 0 0) 45) (number_written t)) ≡ place_in (said_as form t b)
  unfolding said_as
  place-said form e m =
      ap place_in (sym (there (all_of Blank t) (coordinate (signed (eqb (get_or b 0 0) 45) (number_written t))) (said_as form t b) (rw e) m).1)

  pub place_read : {x n : ℕ} {test : Bool} (form : Form) → form ≡ Size → is_missing (said_as form t b) ≡ false → x ≡ get_or b 0 0 → n ≡ number_written t
      → (eqb x 45 && not (eqb n 0)) ≡ test → pick test (n + n) (n + n + 1) ≡ place_in (said_as form t b)
  place_read {x} {n} form e m p q y = rw (← y) (place-code (eqb x 45) n ∙ rw (p, q) (place-said form e m))

  -- TEXTS
  as-text : {form : Form} → (form ≡ Words) ⊎ (form ≡ Code) → said_as form t b ≡ text_said t
  unfolding said_as
  as-text (inl e) = rw e
  as-text (inr e) = rw e

  text-there : {form : Form} → (form ≡ Words) ⊎ (form ≡ Code) → is_missing (said_as form t b) ≡ false → (all_of Blank t ≡ false) × (said_as form t b ≡ text (trimmed t))
  text-there {form} h m = there (all_of Blank t) (text (trimmed t)) (said_as form t b) (as-text h) m

  -- a reader g has of these fields what it has where nothing is said
  pub none-missing : {A : Type 0} (g : Said → A) (form : Form) → is_missing (said_as form t b) ≡ true → g missing ≡ g (said_as form t b)
  none-missing g form e = said-gone g (said_as form t b) e

  pub none-sign : {A : Type 0} (g : Said → A) (form : Form) → form ≡ Sign → g missing ≡ g (said_as form t b)
  unfolding said_as
  none-sign g form e = rw e

  pub none_number : {A : Type 0} (g : Said → A) (form : Form) → form ≡ Number → ((n : ℕ) → g missing ≡ g (number n)) → g missing ≡ g (said_as form t b)
  unfolding said_as
  none_number g form e h = rw e (said-none g (number (number_written t)) (h (number_written t)))

  pub none-size : {A : Type 0} (g : Said → A) (form : Form) → form ≡ Size → ((z : ℤ) → g missing ≡ g (coordinate z)) → g missing ≡ g (said_as form t b)
  unfolding said_as
  none-size g form e h = rw e (said-none g _ (h _))

  -- KEYS AND LETTERS of a field that is not missing
  pub key-number : (form : Form) → form ≡ Number → is_missing (said_as form t b) ≡ false → number_written t + 1 ≡ key_in (said_as form t b)
  unfolding said_as
  key-number form e m = ap key_in (sym (there (all_of Blank t) (number (number_written t)) (said_as form t b) (rw e) m).1)

  pub key-text : {form : Form} → (form ≡ Words) ⊎ (form ≡ Code) → is_missing (said_as form t b) ≡ false → word_of (trimmed t) ≡ key_in (said_as form t b)
  key-text h m = ap key_in (sym (text-there h m).1)

  pub letter-text : {form : Form} → (form ≡ Words) ⊎ (form ≡ Code) → is_missing (said_as form t b) ≡ false → get_or t 0 0 ≡ letter_in (said_as form t b)
  letter-text h m =
      let w = text-there h m in
      sym (trimmed-first t (trimmed-some t w.0)) ∙ ap letter_in (sym w.1)

-- THE FIELD BEFORE matters to none that has the same of every coordinate
said-before : {A : Type 0} (g : Said → A) → ((y z : ℤ) → g (coordinate y) ≡ g (coordinate z)) → (form : Form) (t b c : List ℕ) → g (said_as form t b) ≡ g (said_as form t c)
unfolding said_as
said-before g h Words t b c = refl
said-before g h Code t b c = refl
said-before g h Sign t b c = refl
said-before g h Number t b c = refl
said-before {A} g h Size t b c = go (all_of Blank t) _ _
  where
    go : (blank : Bool) (y z : ℤ) → g (pick blank missing (coordinate y)) ≡ g (pick blank missing (coordinate z))
    go true y z = refl
    go false y z = h y z

pub missing-before : (form : Form) (t b c : List ℕ) → is_missing (said_as form t b) ≡ is_missing (said_as form t c)
missing-before = said-before is_missing (λ y z. refl)

pub number-before : (form : Form) (t b c : List ℕ) → number_in (said_as form t b) ≡ number_in (said_as form t c)
number-before = said-before number_in (λ y z. refl)

pub key-before : (form : Form) (t b c : List ℕ) → key_in (said_as form t b) ≡ key_in (said_as form t c)
key-before = said-before key_in (λ y z. refl)

pub letter-before : (form : Form) (t b c : List ℕ) → letter_in (said_as form t b) ≡ letter_in (said_as form t c)
letter-before = said-before letter_in (λ y z. refl)

-- a number's key, missing or not
pub number-key : (form : Form) (t b : List ℕ) → form ≡ Number → key_in (said_as form t b) ≡ pick (is_missing (said_as form t b)) 0 (number_in (said_as form t b) + 1)
unfolding said_as
number-key form t b e = rw e (go (all_of Blank t) (number_written t))
  where
    go : (blank : Bool) (n : ℕ)
        → key_in (pick blank missing (number n)) ≡ pick (is_missing (pick blank missing (number n))) 0 (number_in (pick blank missing (number n)) + 1)
    go true n = refl
    go false n = refl

-- a text's form is no number's
pub text-no-n : (form : Form) → Among texts form → is_n form ≡ true → ⊥
text-no-n Words h e = true-false (sym e)
text-no-n Code h e = true-false (sym e)
text-no-n Sign h e = true-false (sym e)
text-no-n Number h e = miss texts 3 tt h
text-no-n Size h e = miss texts 4 tt h
