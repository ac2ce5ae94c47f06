use Rattle.std.proofs.Common.{[]}
use Rattle.query_meaning.specs.Copies.{and_copy, roots_of}
use Rattle.query_meaning.specs.Meaning.{mean}
use Rattle.evaluation.proofs.Each.{Goes}
use Rattle.evaluation.specs.Bindings.{binding_of}
use Rattle.query_copies.specs.Kept.{AreCopies}
use Rattle.query_copies.proofs.copies.Copies.copies.Given as goal

abbrev pub invariant-loop-binding : goal.invariant-loop-binding
invariant-loop-binding g l = Goes (λ cs. AreCopies l.fn.run (roots_of cs)) (λ _ cs b. and_copy l.env cs (binding_of mean b)) l.fn.bindings [] l.fn.run l.binding-index l.copies l.run
