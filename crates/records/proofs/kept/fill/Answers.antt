use Rattle.records.proofs.Votes.{put_entries}
use Rattle.records.proofs.kept.fill.Goals as goal

pub returns-clause-put : goal.returns-clause-put
returns-clause-put c = put_entries c.args.position c.args.vote c.args.votes.now c.fill.new.self c.forget_rooms.new.self c.requires.rise c.forget_rooms.ensures.rise c.forget_rooms.ensures.same c.fill.ensures.put
