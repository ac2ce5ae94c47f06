use Rattle.data_model.specs.Changes.{taken_out}
use Rattle.node_table.proofs.Takes.{weigh-taken}
use Rattle.shelves.proofs.Shelves.{after-weighed}
use Rattle.shelves.proofs.shelf.Shelf.take_out.Goals as goal

pub invariant_of-self : goal.invariant_of-self
invariant_of-self c = after-weighed c.self.inside.lent.now c.self.inside.own c.take_out.new.self (taken_out c.args.id c.self.inside.own.trees) c.self.invariant (λ i. weigh-taken _ c.args.id c.self.inside.own.trees) c.take_out.ensures
