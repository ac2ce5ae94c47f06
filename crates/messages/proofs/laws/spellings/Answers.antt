use Rattle.messages.proofs.ExactBodies.{datagram-exact}
use Rattle.messages.proofs.RoundTripBodies.{datagram-back, no-beginning}
use Rattle.messages.proofs.laws.spellings.Goals as goal

pub returns-clause-round_trip : goal.returns-clause-round_trip
returns-clause-round_trip c = datagram-back

pub returns-clause-exact : goal.returns-clause-exact
returns-clause-exact c = datagram-exact

pub returns-clause-no_beginning : goal.returns-clause-no_beginning
returns-clause-no_beginning c = no-beginning
