use Rattle.std.proofs.Common.{inr, rules}
use Rattle.sql_records.proofs.reading.read_vote.Goals as goal

pub returns-in_err-ballot-clause-damaged : goal.returns-in_err-ballot-clause-damaged
returns-in_err-ballot-clause-damaged c damaged e least shows = c.read_ballot.ensures.damaged (search rules) c.args.members e.vote.ballot (inr shows.stands.ballot) shows.round shows.leader
