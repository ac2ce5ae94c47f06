use Rattle.std.proofs.Common.{[]}
use Rattle.evaluation.specs.Gives.{Any}
use Rattle.evaluation.proofs.Each.{Goes}
use Rattle.query_updates.specs.Parts.{deleted}
use Rattle.query_updates.proofs.deletions.delete_all.Given as goal

abbrev pub invariant-loop-node : goal.invariant-loop-node
invariant-loop-node l = Goes Any (λ _. deleted) l.fn.nodes [] l.fn.run l.node-index [] l.run
