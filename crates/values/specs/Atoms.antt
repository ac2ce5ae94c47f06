-- Atomic values and items, atomization, and the effective boolean value.
use Rattle.std.specs.Prelude.{ℕ, ℤ, unsigned_abs, Bool, true, false, not, ◌==◌, nat_lt, if◌then◌else◌, List, [], ◌∷◌, length, Option, Some, None, Result, Ok, Err}
use Rattle.std.specs.Str.{bytes_eq}
use Rattle.data_model.specs.Limits.{most_bytes}
use Rattle.data_model.specs.Trees.{Trees, Place, find, value_of}
use Rattle.data_model.specs.declared.node.Kind.{Kind}
use Rattle.data_model.specs.declared.node.Kind.TheVariants as kind
use Rattle.fault_codes.specs.declared.code.Code.{Code}
use Rattle.fault_codes.specs.declared.code.Code.TheVariants.{FORG0006, PXQ0002}
use Rattle.values.specs.declared.atom.Atom.{Atom}
use Rattle.values.specs.declared.atom.Atom.TheVariants.{String, Boolean, Untyped, Integer}
use Rattle.values.specs.declared.atom.Item.{Item}
use Rattle.values.specs.declared.atom.Item.TheVariants as item

infixl 10 ◌>>=◌
-- what the function makes of the value, or the code that came before
abbrev pub ◌>>=◌ : {A B : Type 0} → Result A Code → (A → Result B Code) → Result B Code
(Ok a) >>= f = f a
(Err code) >>= f = Err code

-- the value, or the code where there is none
abbrev pub or_fault : {A : Type 0} → Code → Option A → Result A Code
or_fault code None = Err code
or_fault code (Some a) = Ok a

-- the typed value of a node of that kind, with that string value: documents, elements, attributes and texts are untyped, comments and
-- processing instructions strings (Data Model, sections 6.1.2 to 6.7.2, with no schema)
abbrev pub typed : Kind → List ℕ → Atom
typed kind.Document text = Untyped text
typed kind.Element text = Untyped text
typed kind.Attribute text = Untyped text
typed kind.Text text = Untyped text
typed kind.Comment text = String text
typed kind.Instruction text = String text

-- a text that isn't too long
abbrev pub bounded : Kind → List ℕ → Result Atom Code
bounded kind text = if nat_lt most_bytes (length text) then Err PXQ0002 else Ok (typed kind text)

abbrev pub typed_at : Option Place → Result Atom Code
typed_at None = Err PXQ0002
typed_at (Some x) = bounded x.content.kind (value_of x.content x.children)

-- an item atomized (XQuery 1.0, section 2.4.2)
abbrev pub atom_of : Trees → Item → Result Atom Code
atom_of ts (item.Node i) = typed_at (find i ts)
atom_of ts (item.Atomic a) = Ok a

-- items atomized, from the left
abbrev pub atomized : Trees → List Item → Result (List Atom) Code
atomized ts [] = Ok []
atomized ts (x ∷ xs) = do
  a ← atom_of ts x
  rest ← atomized ts xs
  Ok (a ∷ rest)

-- the integer is 0
abbrev pub is_zero : ℤ → Bool
is_zero z = unsigned_abs z == 0

-- the effective boolean value of one atomic value
abbrev pub atom_truth : Atom → Bool
atom_truth (String text) = not (bytes_eq text [])
atom_truth (Boolean b) = b
atom_truth (Untyped text) = not (bytes_eq text [])
atom_truth (Integer z) = not (is_zero z)

-- the effective boolean value (XQuery 1.0, section 2.4.3)
abbrev pub truth : List Item → Result Bool Code
truth [] = Ok false
truth (item.Node i ∷ xs) = Ok true
truth (item.Atomic a ∷ []) = Ok (atom_truth a)
truth (item.Atomic a ∷ x ∷ xs) = Err FORG0006
