-- A general comparison of an item with a literal, as an expression in which something stands for the item (XQuery 1.0, section 3.5.2).
use Rattle.std.specs.Prelude.{◌≡◌, pos, unsigned_abs, Bool, true, List, [], ◌∷◌, Result, Ok, Err}
use Rattle.values.specs.declared.atom.Atom.{Atom}
use Rattle.values.specs.declared.atom.Atom.TheVariants as atom
use Rattle.values.specs.declared.atom.Item.{Item}
use Rattle.values.specs.declared.atom.Item.TheVariants as item
use Rattle.values.specs.declared.compare.Comparison.{Comparison}
use Rattle.values.specs.declared.fault.ValueFault.{ValueFault}
use Rattle.values.specs.Arithmetic.{in_range}
use Rattle.query_grammar.specs.declared.ast.Expr.{Expr}
use Rattle.query_grammar.specs.declared.ast.Expr.TheVariants as e
use Rattle.query_grammar.specs.declared.ast.Binary.TheVariants as binary
use Rattle.query_meaning.specs.Running.{M, ◌>>=◌, pure, work}
use Rattle.query_meaning.specs.Sequences.{one}
use Rattle.read_items.specs.Pairs.{items_compared}
use Rattle.item_expressions.specs.Subjects.{OfSubject, subject_expression, subject_work}
use Rattle.item_expressions.specs.declared.subject.Subject.{Subject}
use Rattle.item_expressions.specs.declared.item_comparison.ItemComparison.TheInside.{Inside}

-- a literal, by its value
abbrev pub literal_expression : Atom → Expr
literal_expression (atom.Integer z) = e.Integer (unsigned_abs z)
literal_expression (atom.String text) = e.String text
literal_expression _ = e.Sequence []

-- the value in an item
abbrev pub literal_in : Item → Atom
literal_in (item.Atomic a) = a
literal_in (item.Node i) = atom.Boolean true

-- the value is that of a literal
abbrev pub IsLiteralValue : Atom → Type 0
IsLiteralValue (atom.Integer z) = in_range (pos (unsigned_abs z)) ≡ Ok z
IsLiteralValue (atom.String text) = Unit {0}
IsLiteralValue _ = ⊥

abbrev pub IsLiteral : Item → Type 0
IsLiteral (item.Atomic a) = IsLiteralValue a
IsLiteral (item.Node i) = ⊥

abbrev pub comparison_expression : Subject → Comparison → Atom → Expr
comparison_expression s op a = e.Chain (subject_expression s) (record { operator = binary.General op; operand = literal_expression a } ∷ [])

abbrev pub compared_of : Inside → OfSubject
compared_of c = record { subject = c.subject; expression = comparison_expression c.subject c.operator (literal_in c.literal) }

-- one boolean, or the fault
abbrev pub said : Result Bool ValueFault → Result (List Item) ValueFault
said (Ok b) = Ok (one (atom.Boolean b))
said (Err f) = Err f

-- the work of both sides
abbrev pub sides : Subject → M (Unit {0})
sides s = subject_work s >>= (λ _. work 2)

-- all of it: what the operator gives is one item, and so is what the expression gives
abbrev pub item_holds : Subject → Comparison → Item → (literal : Item) → M Bool
item_holds s op x y = do
  _ ← sides s
  holds ← items_compared op x y
  _ ← work 2
  _ ← work 2
  pure holds
