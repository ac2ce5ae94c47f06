use Rattle.std.proofs.Common.{[], None}
use Rattle.evaluation.proofs.Each.{Goes}
use Rattle.clause_walks.specs.Walked.{for_one, with_variables}
use Rattle.clause_walks.proofs.walk.take_in_turn.Given as goal

abbrev pub invariant-loop-item : goal.invariant-loop-item
invariant-loop-item g l =
    g.A.AtTuple.serves l.fn.at_tuple l.fn.variable l.fn.others l.left
    × Goes (g.A.AtTuple.fits l.fn.at_tuple) (λ i s x. for_one l.fn.variable None [] (g.A.AtTuple.means l.fn.at_tuple) (with_variables l.fn.others (g.A.AtTuple.env l.fn.at_tuple)) i s x) l.fn.items l.fn.given l.fn.run l.item-index l.given l.run
