use Rattle.turn_laws.proofs.Lost.{turns_as_events}
use Rattle.turn_laws.proofs.turns_are_events.Goals as goal

pub returns : goal.returns
returns c = turns_as_events
