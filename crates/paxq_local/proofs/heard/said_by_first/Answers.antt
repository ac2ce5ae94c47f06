use Rattle.messages.specs.Reading.{datagram_read}
use Rattle.clients.specs.Hearing.{heard_in}
use Rattle.paxq_local.specs.Members.{IsSaidBy, own_group}
use Rattle.paxq_local.specs.Told.{told_at}
use Rattle.paxq_local.proofs.Saying.{by-come, found-said}
use Rattle.paxq_local.proofs.heard.said_by_first.Goals as goal

pub returns-then-is_at : goal.returns-then-is_at
returns-then-is_at g c = λ brought come.
    found-said c.said_in.result c.args.asked.now.form (heard_in own_group c.args.asked.now.id (datagram_read c.args.bytes.now))
    (λ x. IsSaidBy g.D.PartialEq.eq c.args.peers.now brought 0 (told_at c.args.asked.now.form) c.args.asked.now.id x) c.said_in.ensures.text c.said_in.ensures.position
    (λ x is. by-come g.D.PartialEq.eq c.args.peers.now brought 0 (told_at c.args.asked.now.form) c.args.asked.now.id x c.args.from c.args.bytes.now come (c.is_at.ensures c.if-is_at.true) is)
