use Rattle.std.proofs.Common.{ℕ, List, []}
use Rattle.query_meaning.specs.Environment.{Environment}
use Rattle.query_meaning.specs.Meaning.{mean}
use Rattle.evaluation.specs.Gives.{Grows}
use Rattle.item_expressions.specs.Subjects.{IsVariable}
use Rattle.query_control.specs.Parts.{satisfied_by}
use Rattle.query_control.proofs.Deciding.{Seeks}
use Rattle.query_control.proofs.quantified.compared_until_decided.Given as goal

abbrev pub invariant-loop-item : goal.invariant-loop-item
invariant-loop-item l =
    Grows l.fn.run l.run
    × ((variable : List ℕ) (env : Environment) → IsVariable variable l.fn.comparison.subject
    → Seeks l.fn.quantifier (λ x. satisfied_by l.fn.quantifier variable [] (mean l.fn.comparison.expression) env x) l.fn.items l.fn.run l.item-index l.run)
