use Rattle.server_steps.proofs.HeldLemmas.{held_among}
use Rattle.server_steps.proofs.waiting.Waiting.get.Goals as goal

pub returns-in-Some : goal.returns-in-Some
returns-in-Some g c = held_among c.args.self.now.requests.entries c.in-Some.held.now c.in-Some.ensures.member
