use Rattle.std.proofs.Common.{[]}
use Rattle.query_meaning.specs.Meaning.{mean}
use Rattle.evaluation.specs.Gives.{Stand}
use Rattle.evaluation.proofs.Each.{Goes}
use Rattle.query_control.specs.Parts.{returned_at}
use Rattle.query_control.proofs.forms.Forms.returned_in_order.Given as goal

abbrev pub invariant-loop-tuple : goal.invariant-loop-tuple
invariant-loop-tuple g l = Goes Stand (λ _ given t. returned_at (mean l.fn.body) given t) l.fn.tuples [] l.fn.run l.tuple-index l.given l.run
