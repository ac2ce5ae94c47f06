use Rattle.std.proofs.Common.{◌≡◌, [], length}
use Rattle.std.specs.List.{All}
use Rattle.query_meaning.specs.Environment.{Environment}
use Rattle.query_meaning.specs.Meaning.{mean}
use Rattle.evaluation.specs.Gives.{Any}
use Rattle.evaluation.proofs.Each.{Goes}
use Rattle.item_expressions.specs.Subjects.{OfSubject, StandsFor}
use Rattle.keyed_items.specs.Keyed.{and_key}
use Rattle.keyed_items.proofs.keys.keys_of.Given as goal

abbrev pub invariant-loop-function : goal.invariant-loop-function
invariant-loop-function l =
    (l.run ≡ record l.fn.run { work = l.run.work })
    × ((length l.found ≡ l.function-index)
    × ((env : Environment) → All (λ (f : OfSubject). StandsFor f.subject l.fn.item.item.now env) l.fn.functions
    → Goes Any (λ _ given (f : OfSubject). and_key env given (mean f.expression)) l.fn.functions [] l.fn.run l.function-index l.found l.run))
