use Rattle.std.proofs.Common.{rules}
use Rattle.sql_records.proofs.reading.read_member.Goals as goal

pub returns-in_err-ballot-clause-damaged : goal.returns-in_err-ballot-clause-damaged
returns-in_err-ballot-clause-damaged c damaged row is any p b few numbers shows = absurd (c.read_ballot.ensures.damaged (search rules) p.members b shows.promise (search (rules, shows.round)) (search (rules, shows.leader)))
