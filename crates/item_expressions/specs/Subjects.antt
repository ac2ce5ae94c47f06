-- What stands for an item in an expression, and what its value takes.
use Rattle.std.specs.Prelude.{◌≡◌, ℕ, List, [], ◌∷◌, Option, Some, None}
use Rattle.values.specs.declared.atom.Item.{Item}
use Rattle.query_grammar.specs.declared.ast.Expr.{Expr}
use Rattle.query_grammar.specs.declared.ast.Expr.TheVariants as e
use Rattle.query_meaning.specs.Environment.{Bound, Environment, Focus, with_variable}
use Rattle.query_meaning.specs.Running.{M, ◌>>=◌, work}
use Rattle.item_expressions.specs.declared.subject.Subject.{Subject}
use Rattle.item_expressions.specs.declared.subject.Subject.TheVariants as subject

-- what stands for the item, as an expression
abbrev pub subject_expression : Subject → Expr
subject_expression (subject.Variable name) = e.Variable name.now
subject_expression subject.Context = e.Context

-- what stands for the item, and the whole expression
pub record OfSubject : Type 0 where
  pub subject : Subject
  pub expression : Expr

-- the variable of that name was bound last, to that item alone
abbrev pub IsBoundLast : (name : List ℕ) → Item → List Bound → Type 0
IsBoundLast name x [] = ⊥
IsBoundLast name x (b ∷ bs) = (b.variable ≡ name) × (b.items ≡ x ∷ [])

-- that is the context item
abbrev pub IsContext : Item → Option Focus → Type 0
IsContext x None = ⊥
IsContext x (Some f) = f.item ≡ x

-- what stands for the item in an environment
abbrev pub StandsFor : Subject → Item → Environment → Type 0
StandsFor (subject.Variable name) x env = IsBoundLast name.now x env.variables
StandsFor subject.Context x env = IsContext x env.focus

-- what stands for an item is that variable, wherever it was bound last to that item alone
abbrev pub IsVariable : (variable : List ℕ) → Subject → Type 0
IsVariable variable s = (x : Item) (env : Environment) → StandsFor s x (with_variable variable (x ∷ []) env)

-- the work of what stands for the item: to look for a variable that was bound last is a unit, and a value of one item takes two
abbrev pub subject_work : Subject → M (Unit {0})
subject_work (subject.Variable name) = work 1 >>= (λ _. work 2)
subject_work subject.Context = work 2
