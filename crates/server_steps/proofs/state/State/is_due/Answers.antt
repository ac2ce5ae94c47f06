use Rattle.server_steps.proofs.Words.{begins_told, stays_told}
use Rattle.server_steps.proofs.state.State.is_due.Goals as goal

pub returns-clause-told : goal.returns-clause-told
returns-clause-told g c = stays_told _ _ _ _ _ c.at_tick-word.ensures.said

pub returns-clause-begins : goal.returns-clause-begins
returns-clause-begins g c is = begins_told _ _ _ _ _ c.at_tick-word.ensures.said is
