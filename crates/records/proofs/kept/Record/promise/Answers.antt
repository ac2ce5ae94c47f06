use Rattle.records.proofs.Votes.{above_filled}
use Rattle.records.proofs.kept.Record.promise.Goals as goal

pub returns-clause-rising : goal.returns-clause-rising
returns-clause-rising c = rw (← c.self.view_is) (above_filled 0 _ c.self.invariant.0)
