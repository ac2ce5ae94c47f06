-- What an evaluation gives, beside the forest that was lent.
use Rattle.std.specs.Prelude.{List, Result, Ok, Err, refl}
use Rattle.std.specs.Coded.{Coded, code_by, coded×, coded_list}
use Rattle.trees.specs.Forest.{ForestTerm}
use Rattle.fault_codes.specs.declared.code.Code.{Code}
use Rattle.values.specs.declared.atom.Item.{Item}
use Rattle.values.specs.contracts.atom.Item as item
use Rattle.query_grammar.specs.declared.ast.Expr.{Expr}
use Rattle.query_meaning.specs.Running.{Run, run_code}
use Rattle.query_meaning.specs.Environment.{no_environment}
use Rattle.query_meaning.specs.Meaning.{Outcome, mean, start}
use Rattle.evaluator.specs.declared.outcome.Outcome.TheInside.{Inside}

-- the items, and the run in which they are given
pub record Evaluated : Type 0 where
  pub items : List Item
  pub run : Run

abbrev pub evaluated_code : Coded Evaluated
evaluated_code = code_by (List Item × Run) (coded× (coded_list item.the_row.coded) run_code) (λ o. (o.items, o.run)) (λ p. record { items = p.0; run = p.1 }) (λ _. refl)

abbrev pub evaluated_of : Inside → Evaluated
evaluated_of a = record { items = a.items; run = a.run }

abbrev pub given : Result (List Item × Run) Code → Result Evaluated Code
given (Ok p) = Ok (record { items = p.0; run = p.1 })
given (Err code) = Err code

-- what an expression means over a forest, before anything else is evaluated
abbrev pub evaluated_over : Expr → ForestTerm → Result Evaluated Code
evaluated_over x lent = given (mean x no_environment (start lent))

-- the same without the forest that was lent, and the turns that are left
abbrev pub outcome_of : Evaluated → Outcome
outcome_of o = record { items = o.items; primitives = o.run.primitives; trees = o.run.shelf.own.trees; next = o.run.shelf.own.next }
