-- What tells atomic values apart.
use Rattle.std.specs.Prelude.{◌≡◌}
use Rattle.std.specs.Str.{IsUtf8}
use Rattle.values.specs.declared.atom.Atom.{Atom}
use Rattle.values.specs.declared.atom.Atom.TheVariants as atom
use Rattle.query_calls.specs.declared.distinct.Key.{Key}
use Rattle.query_calls.specs.declared.distinct.Key.TheVariants.{Text, Boolean, Integer}

-- the value that a key stands for
abbrev pub value_of : Key → Atom
value_of (Text t) = atom.String t.now
value_of (Boolean b) = atom.Boolean b
value_of (Integer z) = atom.Integer z

-- its text is one
abbrev pub IsText : Key → Type 0
IsText (Text t) = IsUtf8 t.now
IsText (Boolean b) = Unit {0}
IsText (Integer z) = Unit {0}

-- it stands for that value
pub record IsKey (k : Key) (a : Atom) : Type 0 where
  pub value : value_of k ≡ a
  pub text : IsText k
