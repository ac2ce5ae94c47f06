-- What the code asks of texts, and of the values of several arguments.
use Rattle.std.specs.Prelude.{◌≡◌, ℕ, nat_lt, Bool, true, false, ◌||◌, pos, List, ◌++◌, length, chars, Ok}
use Rattle.std.specs.List.{flat_map, list_any}
use Rattle.fault_codes.specs.declared.code.Code.TheVariants.{XPTY0004}
use Rattle.values.specs.declared.atom.Atom.{Atom}
use Rattle.values.specs.declared.atom.Item.{Item}
use Rattle.query_meaning.specs.Functions.{all_atoms, integer, string, string_argument}
use Rattle.query_meaning.specs.Running.{M, Run, fault, ◌>>=◌, come_to, atoms}
use Rattle.query_meaning.specs.Strings.{limited, printed}
use Rattle.evaluation.specs.Gives.{Any, GivesIn}
use Rattle.query_calls.specs.declared.strings.ArgumentValues.{ArgumentValues}

-- how many characters there are in a string argument of those values
abbrev pub length_of : List Atom → M (List Item)
length_of values = do
  text ← come_to (string_argument values)
  integer (pos (length (chars text)))

-- there is more than one value
abbrev pub is_several : List Atom → Bool
is_several values = nat_lt 1 (length values)

-- the values of an argument come after those of the others, and nothing but the work is another
pub record IsGatheredMore (items : List Item) (old new : Run) (before after : ArgumentValues) : Type 0 where
  pub values : List Atom
  pub are : atoms items old ≡ Ok (values, new)
  pub same : new ≡ record old { work = new.work }
  pub all : after.values.items ≡ before.values.items ++ values
  pub several : after.has_several ≡ (before.has_several || is_several values)

-- the values of all arguments, one after the other
pub record IsGathered (arguments : List (List Item)) (old new : Run) (g : ArgumentValues) : Type 0 where
  pub values : List (List Atom)
  pub are : GivesIn Any (all_atoms arguments) old (Ok values) new
  pub all : g.values.items ≡ flat_map (λ vs. vs) values
  pub several : g.has_several ≡ list_any is_several values

-- the text of values that come from one argument each
abbrev pub concatenated_of : List Atom → Bool → M (List Item)
concatenated_of values true = fault XPTY0004
concatenated_of values false = come_to (limited (flat_map printed values)) >>= string
