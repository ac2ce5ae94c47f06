use Rattle.server_steps.proofs.Giving.{given_more}
use Rattle.server_steps.proofs.sending.+post.Goals as goal

pub returns-clause-given : goal.returns-clause-given
returns-clause-given g t c =
    given_more g.W.Wire.was_given c.args.wire.now c.send_one.new.wire c.post.new.wire c.args.place.now.end c.args.place.now.peers c.args.client c.args.members c.args.member c.args.sent.now
    c.in-Some.first.now c.in-Some.others.now c.in-Some.ensures.cases.0 c.send_one.ensures.given c.post.ensures.given
