use Rattle.std.proofs.Common.{subst}
use Rattle.paxos.specs.Lists.{Has}
use Rattle.server_steps.specs.Held.{held_in}
use Rattle.server_steps.proofs.HeldLemmas.{held_insert}
use Rattle.server_steps.proofs.waiting.Waiting.put.Goals as goal

pub returns-in-Ok : goal.returns-in-Ok
returns-in-Ok g c d has =
    held_insert _ c.args.self.now.requests.entries c.args.id c.args.held d (subst (λ es. Has (held_in es) d) c.in-Ok.ensures.entries has)
