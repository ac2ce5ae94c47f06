use Rattle.ballots.proofs.Spellings.{round-trip, no-beginning, exact}
use Rattle.ballots.proofs.laws.spellings.Goals as goal

pub returns-clause-round_trip : goal.returns-clause-round_trip
returns-clause-round_trip c = round-trip

pub returns-clause-exact : goal.returns-clause-exact
returns-clause-exact c = exact

pub returns-clause-no_beginning : goal.returns-clause-no_beginning
returns-clause-no_beginning c = no-beginning
