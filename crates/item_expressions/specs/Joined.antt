-- A general comparison of the variable that was bound last with another one (XQuery 1.0, section 3.5.2).
use Rattle.std.specs.Prelude.{◌≡◌, ℕ, Bool, true, false, List, [], ◌∷◌}
use Rattle.std.specs.Str.{bytes_eq}
use Rattle.values.specs.declared.atom.Item.{Item}
use Rattle.values.specs.declared.compare.Comparison.{Comparison}
use Rattle.query_grammar.specs.declared.ast.Expr.{Expr}
use Rattle.query_grammar.specs.declared.ast.Expr.TheVariants as e
use Rattle.query_grammar.specs.declared.ast.Binary.TheVariants as binary
use Rattle.query_meaning.specs.Running.{M, ◌>>=◌, pure, work}
use Rattle.read_items.specs.Pairs.{items_compared}
use Rattle.item_expressions.specs.declared.variable_comparison.VariableComparison.TheInside.{Inside}

-- the variable that was bound last, the other one, and the whole expression
pub record OfVariables : Type 0 where
  pub variable : List ℕ
  pub other : List ℕ
  pub expression : Expr

-- a comparison of two variables
abbrev pub variables_expression : Comparison → (left right : List ℕ) → Expr
variables_expression op l r = e.Chain (e.Variable l) (record { operator = binary.General op; operand = e.Variable r } ∷ [])

-- the one that was bound last on the left, or on the right
abbrev pub joined_expression : Comparison → (variable other : List ℕ) → (is_left : Bool) → Expr
joined_expression op v o true = variables_expression op v o
joined_expression op v o false = variables_expression op o v

abbrev pub joined_of : Inside → OfVariables
joined_of c = record { variable = c.variable.now; other = c.other.now; expression = joined_expression c.operator c.variable.now c.other.now c.is_left }

-- it is another one
abbrev pub IsOther : (other variable : List ℕ) → Type 0
IsOther o v = bytes_eq o v ≡ false

-- A value of one item takes two units beside those for the variables that are looked at; what the operator gives is one item, and so is what the expression
-- gives.
abbrev pub both_hold : Comparison → Item → ℕ → Item → ℕ → M Bool
both_hold op x k y m = do
  _ ← work k
  _ ← work 2
  _ ← work m
  _ ← work 2
  holds ← items_compared op x y
  _ ← work 2
  _ ← work 2
  pure holds
