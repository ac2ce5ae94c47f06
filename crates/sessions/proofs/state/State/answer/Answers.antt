use Rattle.std.proofs.Common.{arith}
use Rattle.ballots.specs.Values.{positions}
use Rattle.query_meaning.specs.Running.{most_nodes}
use Rattle.sessions.proofs.state.State.answer.Goals as goal

pub answer-requires : goal.answer-requires
unfolding most_nodes positions
answer-requires c =
    let next = c.self.invariant.next in
    let few = c.self.invariant.few in
    record { next = omega arith }
