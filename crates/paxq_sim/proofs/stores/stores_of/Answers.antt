use Rattle.std.proofs.Common.{◌∙◌, ap, length, subst}
use Rattle.std.proofs.lemmas.List.{length-map}
use Rattle.ballots.specs.Messages.{up_to}
use Rattle.paxos.specs.Lists.{Has}
use Rattle.straight_runs.proofs.Lists.{length_up_to}
use Rattle.paxq_sim.specs.Stores.{store_of}
use Rattle.paxq_sim.proofs.Leading.{unwritten}
use Rattle.paxq_sim.proofs.stores.stores_of.Goals as goal

pub returns-clause-many : goal.returns-clause-many
returns-clause-many c = ap length c.in_ok-stores.ensures ∙ length-map (up_to c.args.members) (store_of c.args.failures.now) ∙ length_up_to c.args.members

pub returns-clause-unwritten : goal.returns-clause-unwritten
returns-clause-unwritten c = λ r h. unwritten c.args.failures.now c.args.members r (subst (λ rs. Has rs r) c.in_ok-stores.ensures h)
