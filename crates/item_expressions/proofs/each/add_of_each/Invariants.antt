-- The items so far, where nothing was done but to take turns and work.
use Rattle.std.proofs.Common.{◌≡◌, ℕ, List, Option}
use Rattle.query_grammar.specs.declared.ast.Expr.{Expr}
use Rattle.query_meaning.specs.Environment.{Bound, Environment}
use Rattle.query_meaning.specs.Running.{trees_of}
use Rattle.evaluation.specs.Gives.{Stand}
use Rattle.evaluation.proofs.Each.{Goes}
use Rattle.item_expressions.specs.Looped.{returned_of}
use Rattle.item_expressions.specs.Others.{IsTest}
use Rattle.item_expressions.specs.Subjects.{IsVariable}
use Rattle.item_expressions.proofs.each.add_of_each.Given as goal

abbrev pub invariant-loop-item : goal.invariant-loop-item
invariant-loop-item l =
    (l.run ≡ record l.fn.run { turns = l.run.turns; work = l.run.work })
    × (Stand l.given l.run
    × ((condition : Option Expr) (variable : List ℕ) (others : List Bound) (env : Environment) → IsTest (trees_of l.fn.run) condition variable others l.fn.test → IsVariable variable l.fn.function.subject → env.variables ≡ others
    → Goes Stand (λ _. returned_of condition l.fn.function.expression variable env) l.fn.items l.fn.given l.fn.run l.item-index l.given l.run))
