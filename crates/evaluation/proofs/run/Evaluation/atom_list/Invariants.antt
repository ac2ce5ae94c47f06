-- The typed values that are left to take end as all of them do.
use Rattle.std.proofs.Common.{◌≡◌, []}
use Rattle.evaluation.proofs.Each.{Goes}
use Rattle.evaluation.specs.Atoms.{and_atom}
use Rattle.evaluation.specs.Gives.{Any}
use Rattle.evaluation.proofs.run.Evaluation.atom_list.Given as goal

abbrev pub invariant-loop-item : goal.invariant-loop-item
invariant-loop-item l = Goes Any (λ _. and_atom) l.fn.items [] l.fn.self l.item-index l.values.items l.self × (l.self ≡ record l.fn.self { work = l.self.work })
