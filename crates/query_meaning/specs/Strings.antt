-- Strings of an evaluation.
use Rattle.std.specs.Prelude.{ℕ, nat_lt, if◌then◌else◌, List, [], ◌∷◌, ◌++◌, length, map, codes, Result, Ok, Err}
use Rattle.std.specs.Fmt.{signed_decimal}
use Rattle.fault_codes.specs.declared.code.Code.{Code}
use Rattle.fault_codes.specs.declared.code.Code.TheVariants.{XPTY0004, PXQ0002}
use Rattle.values.specs.declared.atom.Atom.{Atom}
use Rattle.values.specs.declared.atom.Atom.TheVariants.{String, Boolean, Untyped, Integer}
use Rattle.data_model.specs.Limits.{most_bytes}

-- a text that isn't too long (our own limit)
abbrev pub limited : List ℕ → Result (List ℕ) Code
limited text = if nat_lt most_bytes (length text) then Err PXQ0002 else Ok text

-- an atomic value as a string (Functions and Operators, section 17.1.2)
abbrev pub printed : Atom → List ℕ
printed (String text) = text
printed (Untyped text) = text
printed (Boolean b) = if b then codes "true" else codes "false"
printed (Integer z) = signed_decimal z

-- texts with a separator between each two
abbrev pub separated : (separator : List ℕ) → List (List ℕ) → List ℕ
separated s [] = []
separated s (t ∷ []) = t
separated s (t ∷ u ∷ ts) = t ++ s ++ separated s (u ∷ ts)

-- atomic values joined by single spaces (XQuery 1.0, section 3.7.1.3)
abbrev pub spaced : List Atom → Result (List ℕ) Code
spaced values = limited (separated (codes " ") (map printed values))

-- a string, or what is untyped
abbrev pub text_in : Atom → Result (List ℕ) Code
text_in (String text) = Ok text
text_in (Untyped text) = Ok text
text_in _ = Err XPTY0004

-- just one of these
abbrev pub one_text : List Atom → Result (List ℕ) Code
one_text (a ∷ []) = text_in a
one_text _ = Err XPTY0004
