use Rattle.std.proofs.Common.{[]}
use Rattle.query_meaning.specs.Sequences.{and_items}
use Rattle.evaluation.specs.Gives.{Stand}
use Rattle.query_meaning.specs.Meaning.{mean}
use Rattle.evaluation.proofs.Each.{Goes}
use Rattle.query_control.proofs.forms.Forms.in_turn.Given as goal

abbrev pub invariant-loop-part : goal.invariant-loop-part
invariant-loop-part g l = Goes Stand (λ _ given x. and_items l.env given (mean x)) l.fn.parts [] l.fn.run l.part-index l.given l.run
