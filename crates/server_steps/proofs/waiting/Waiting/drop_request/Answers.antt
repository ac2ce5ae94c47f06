use Rattle.std.proofs.Common.{subst}
use Rattle.paxos.specs.Lists.{Has}
use Rattle.server_steps.specs.Held.{held_in}
use Rattle.server_steps.proofs.HeldLemmas.{held_remove}
use Rattle.server_steps.proofs.waiting.Waiting.drop_request.Goals as goal

pub returns-in-Some : goal.returns-in-Some
returns-in-Some g c d has =
    held_remove c.args.self.now.requests.entries c.in-Some.index d (subst (λ es. Has (held_in es) d) c.shift_remove_index.ensures.entries has)
