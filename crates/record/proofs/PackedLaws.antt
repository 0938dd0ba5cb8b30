-- The code's tables (specs/machinery/Packed.antt) are the rows.
-- Assumes nothing.
use Prim.Native.Nat.{ℕ, ◌<◌}
use mathlib.Core.Bool.{Bool, true, false}
use mathlib.Core.List.{List, [], ◌∷◌}
use mathlib.Core.Path.{◌≡◌, refl, sym, ap, ◌∙◌}
use native.Mathlib.Decide.{dec_lt}
use native.Mathlib.Omega.{arith}
use lib.Dec.{eqb, ltb}
use lib.ListN.{get_or}
use borrow.Author.Tests.{eqb-true, ne_eqb, lt-ltb, le-ltb}
use Rattle.laws.specs.Row.{pick, each}
use Rattle.record.specs.declared.kind.Kind.{Kind}
use Rattle.record.specs.declared.kind.Form.{Form}
use Rattle.record.specs.declared.kind.Form.TheVariants.{Words, Code, Sign, Number, Size}
use Rattle.record.specs.declared.kind.Domain.{Domain}
use Rattle.record.specs.declared.kind.Domain.TheVariants.{Any, ObjectType, PlusMinus, NodeType, Orientation, Justification}
use Rattle.record.specs.declared.kind.Target.{Target}
use Rattle.record.specs.declared.kind.Target.TheVariants.{Free, Nowhere, To}
use Rattle.record.specs.Table.{Col, whole, cols, col_at, form_at, domain_at, file_of, which_of}
use Rattle.record.specs.machinery.Packed.{packed_of, digit_of, digit_at, form_digit, form_of, domain_digit, domain_of, target_file, target_field, target_by}
use Rattle.laws.proofs.MatchLaws.{NoneOf, numbers, default-at}
use Rattle.record.proofs.TableLaws.{each-get_d, every, everywhere, every-place, past, sane, which-file}

-- The digits of an attribute's numbers are the attribute, as is computed of each
abbrev pub Packs : (List Col → ℕ → ℕ) → Type 0
Packs g = everywhere (λ k f. eqb (digit_of (packed_of g k) f) (g (cols k) f)) ≡ true

-- so that the code reads it of a kind's number n at a place,
pub read : (g : List Col → ℕ → ℕ) → Packs g → (k : Kind) (f : ℕ) {n : ℕ} → n ≡ packed_of g k → f < 16 → digit_of n f ≡ g (cols k) f
read g e k f q l = rw q (eqb-true _ _ (every-place (λ k f. eqb (digit_of (packed_of g k) f) (g (cols k) f)) e k f l))

-- and an attribute of a column, which is 0 where there is none, at any
pub read_at : (h : Col → ℕ) → h whole ≡ 0 → Packs (λ cs f. h (get_or cs f whole)) → (k : Kind) (f : ℕ) {n : ℕ} → n ≡ packed_of (λ cs f. h (get_or cs f whole)) k
    → digit_at n f ≡ h (col_at k f)
unfolding digit_at col_at
read_at h z e k f {n} q = go (dec_lt f 16)
  where
    go : Dec (f < 16) → pick (ltb f 16) (digit_of n f) 0 ≡ h (get_or (cols k) f whole)
    go (yes l) = rw (lt-ltb f 16 l) (read (λ cs f. h (get_or cs f whole)) e k f q l)
    go (no l) = rw (le-ltb f 16 (omega arith)) (sym z ∙ past h k f (omega arith))

-- FORMS, DOMAINS, TARGETS by their digits
pub form-digit : (x : Form) → form_of (form_digit x) ≡ x
unfolding form_of
form-digit Words = refl
form-digit Code = refl
form-digit Sign = refl
form-digit Number = refl
form-digit Size = refl

pub form-rest : (n : ℕ) → NoneOf (numbers 1 4) n → Words ≡ form_of n
unfolding form_of
form-rest n o = default-at Words 1 (Code ∷ Sign ∷ Number ∷ Size ∷ []) n o

pub domain-digit : (x : Domain) → domain_of (domain_digit x) ≡ x
unfolding domain_of
domain-digit Any = refl
domain-digit ObjectType = refl
domain-digit PlusMinus = refl
domain-digit NodeType = refl
domain-digit Orientation = refl
domain-digit Justification = refl

pub domain-rest : (n : ℕ) → NoneOf (numbers 1 5) n → Any ≡ domain_of n
unfolding domain_of
domain-rest n o = default-at Any 1 (ObjectType ∷ PlusMinus ∷ NodeType ∷ Orientation ∷ Justification ∷ []) n o

pub target-digits : (t : Target) → target_by (target_file t) (target_field t) ≡ t
unfolding target_by which_of
target-digits Free = refl
target-digits Nowhere = refl
target-digits (To k g) = rw (ne_eqb (file_of k) 15 (λ e. omega (arith, sane k)), which-file k)

-- 1 for what is so
pub one-picked : (b : Bool) → eqb (pick b 1 0) 1 ≡ b
one-picked true = refl
one-picked false = refl

-- THE DOMAIN of a form: only words and numbers have one of their own
abbrev pub form_domain : Form → Domain → Domain
form_domain Words d = d
form_domain Code d = Any
form_domain Sign d = PlusMinus
form_domain Number d = d
form_domain Size d = Any

abbrev domain_test : Col → Bool
domain_test c = eqb (domain_digit c.domain) (domain_digit (form_domain c.form c.domain))

pub domain-fits : (k : Kind) (f : ℕ) → domain_at k f ≡ form_domain (form_at k f) (domain_at k f)
unfolding form_at domain_at col_at each
domain-fits k f =
    let e = eqb-true _ _ (each-get_d domain_test (cols k) whole refl (every (λ j. each domain_test (cols j)) refl k) f) in
    sym (domain-digit (domain_at k f)) ∙ ap domain_of e ∙ domain-digit (form_domain (form_at k f) (domain_at k f))
