-- What is asked of a function value that evaluates the parts of a FLWOR or quantified expression.
use Rattle.std.specs.Prelude.{List, [], ◌∷◌, Option}
use Rattle.std.specs.Option.{ForSome}
use Rattle.query_grammar.specs.declared.ast.Binding.{Binding}
use Rattle.query_grammar.specs.declared.ast.Clause.{Clause}
use Rattle.query_grammar.specs.declared.ast.Expr.{Expr}
use Rattle.evaluation.specs.Evaluates.{Pre, Post, Evaluates, EvaluatesEach}
use Rattle.evaluation.specs.Bindings.{bound_source}
use Rattle.clause_walks.specs.Walked.{source_of}

-- the same of the expressions in a FLWOR expression
pub record EvaluatesFlwor (pre : Pre) (post : Post) (cs : List (Clause Expr)) (o : Option Expr) (x : Expr) : Type 0 where
  pub clauses : EvaluatesEach pre post source_of cs
  pub condition : ForSome o (λ y. Evaluates pre post (y ∷ []))
  pub body : Evaluates pre post (x ∷ [])

-- the same of those in a quantified expression
pub record EvaluatesQuantified (pre : Pre) (post : Post) (bs : List (Binding Expr)) (x : Expr) : Type 0 where
  pub bindings : EvaluatesEach pre post bound_source bs
  pub test : Evaluates pre post (x ∷ [])
