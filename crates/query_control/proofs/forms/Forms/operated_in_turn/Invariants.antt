use Rattle.query_meaning.specs.Meaning.{mean}
use Rattle.evaluation.specs.Gives.{Stand}
use Rattle.query_control.specs.Operations.{operation_of, and_operation}
use Rattle.evaluation.proofs.Each.{Goes}
use Rattle.query_control.proofs.forms.Forms.operated_in_turn.Given as goal

abbrev pub invariant-loop-operation : goal.invariant-loop-operation
invariant-loop-operation g l =
    Goes Stand (λ _ given o. and_operation l.env given (operation_of mean o)) l.fn.operations l.fn.left l.fn.run l.operation-index l.given l.run
