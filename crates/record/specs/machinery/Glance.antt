-- Machinery: a glance at a record's bytes: tests that hold only where nothing is broken (GlanceLaws.antt). No promise cites this file. They are no rules: where one of them
-- fails, the rules are asked (Rules.antt).
-- Assumes nothing.
use Rattle.std.specs.Prelude.{ℕ, ◌+◌, Bool, not, ◌&&◌, ◌||◌, List, ltb, eqb, get_or, take, drop}
use Rattle.laws.specs.Row.{pick}
use Rattle.field.specs.declared.class.Class.{Class}
use Rattle.field.specs.declared.class.Class.TheVariants.{Blank, Digit, Zero, Plain}
use Rattle.field.specs.Bytes.{all_of}
use Rattle.record.specs.declared.kind.Form.{Form}
use Rattle.record.specs.declared.kind.Domain.{Domain}
use Rattle.record.specs.Table.{is_n}
use Rattle.record.specs.Rules.{in_domain}

-- w bytes from o on
abbrev pub cut : List ℕ → ℕ → ℕ → List ℕ
cut s o w = take w (drop o s)

unfoldable pub bar_at : List ℕ → ℕ → Bool
bar_at s o = eqb (get_or s o 0) 124

-- of a text: bytes of the class, and the first of them no blank
unfoldable pub full : Class → List ℕ → Bool
full c t = ltb 32 (get_or t 0 0) && all_of c t

-- the same, or blanks
unfoldable pub full_or_blank : Class → List ℕ → Bool
full_or_blank c t = full c t || all_of Blank t

-- full by its form and within the domain; and the same, or blanks
unfoldable pub full_in : Form → Domain → List ℕ → Bool
full_in form domain t = full (pick (is_n form) Digit Plain) t && in_domain form domain t

unfoldable pub in_or_blank : Form → Domain → List ℕ → Bool
in_or_blank form domain t = full_in form domain t || all_of Blank t

-- a field and the bar after it: a number that may not be missing, a number or a text that may be; the same of a field with a domain; a
-- CODIGO (none that begins with N and has a blank for its third byte, as NA and ND do)
unfoldable pub need_at : List ℕ → ℕ → ℕ → Bool
need_at s o w = full Digit (cut s o w) && bar_at s (o + w)

unfoldable pub may_at : Class → List ℕ → ℕ → ℕ → Bool
may_at c s o w = full_or_blank c (cut s o w) && bar_at s (o + w)

unfoldable pub need_in_at : Form → Domain → List ℕ → ℕ → ℕ → Bool
need_in_at form domain s o w = full_in form domain (cut s o w) && bar_at s (o + w)

unfoldable pub may_in_at : Form → Domain → List ℕ → ℕ → ℕ → Bool
may_in_at form domain s o w = in_or_blank form domain (cut s o w) && bar_at s (o + w)

unfoldable pub code_at : List ℕ → ℕ → ℕ → Bool
code_at s o w = full Plain (cut s o w) && (not (eqb (get_or (cut s o w) 0 0) 78) || not (eqb (get_or (cut s o w) 2 0) 32)) && bar_at s (o + w)

-- a sign; next is the number's text
unfoldable pub sign_in : List ℕ → List ℕ → Bool
sign_in t next = full Plain t && (eqb (get_or t 0 0) 43 || eqb (get_or t 0 0) 45 && not (all_of Zero next))

-- a sign, a bar and a number of w digits; and all blank
unfoldable pub signed_at : List ℕ → ℕ → ℕ → Bool
signed_at s o w = sign_in (cut s o 1) (cut s (o + 2) w) && bar_at s (o + 1) && full Digit (cut s (o + 2) w)

unfoldable pub gone_at : List ℕ → ℕ → ℕ → Bool
gone_at s o w = all_of Blank (cut s o 1) && bar_at s (o + 1) && all_of Blank (cut s (o + 2) w)

-- X and Y, and Z or blanks for it; and blanks for all three
unfoldable pub position_at : List ℕ → ℕ → Bool
position_at s o =
    signed_at s o 9 && bar_at s (o + 11) && signed_at s (o + 12) 10 && bar_at s (o + 24) && (signed_at s (o + 25) 8 || gone_at s (o + 25) 8)

unfoldable pub nowhere_at : List ℕ → ℕ → Bool
nowhere_at s o = gone_at s o 9 && bar_at s (o + 11) && gone_at s (o + 12) 10 && bar_at s (o + 24) && gone_at s (o + 25) 8

-- the record's end
unfoldable pub end_at : List ℕ → ℕ → Bool
end_at s o = eqb (get_or s o 0) 13 && eqb (get_or s (o + 1) 0) 10
