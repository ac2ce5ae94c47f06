-- The text of the typed value of an item.
use Rattle.std.specs.Prelude.{◌≡◌, ℕ, List, Option, None, Some, Result, Ok, Err}
use Rattle.values.specs.declared.atom.Atom.{Atom}
use Rattle.values.specs.declared.atom.Atom.TheVariants.{String}
use Rattle.values.specs.declared.atom.Item.{Item}
use Rattle.values.specs.declared.fault.ValueFault.{ValueFault}
use Rattle.values.specs.Comparisons.{as_string}
use Rattle.query_meaning.specs.Running.{M, Run, ◌>>=◌, atom as atom_at, pure, work}
use Rattle.evaluation.specs.Gives.{Any, Fails, GivesIn}

-- the typed value, untyped as a string
abbrev pub string_at : Item → M Atom
string_at x = atom_at x >>= (λ a. pure (as_string a))

-- what is taken for it
abbrev pub text_paid : (nodes units : ℕ) → M (Unit {0})
text_paid n u = work n >>= (λ _. work u)

-- The text of a typed value that is a string or untyped. Where none is given nothing has changed.
abbrev pub GivesText : Item → Run → Result (Option (List ℕ)) ValueFault → Run → Type 0
GivesText x old (Ok (Some text)) new = GivesIn Any (string_at x) old (Ok (String text)) new
GivesText x old (Ok None) new = new ≡ old
GivesText x old (Err f) new = Fails (atom_at x old) f
