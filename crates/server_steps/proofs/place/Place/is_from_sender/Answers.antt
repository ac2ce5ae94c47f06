use Rattle.std.proofs.Common.{sym, ◌∙◌}
use Rattle.server_steps.proofs.SenderLemmas.{of_member, of_stranger}
use Rattle.server_steps.proofs.place.Place.is_from_sender.Goals as goal

pub returns-in-Some-address_of : goal.returns-in-Some-address_of
returns-in-Some-address_of g c =
    of_member g.D.PartialEq.eq c.args.self.now.peers c.args.bytes.now c.args.from c.in-Some.sender c.if-sender-eq0.false (sym c.in-Some.is ∙ c.sender_of.ensures)
    c.in-Some-address_of.peer (sym c.in-Some-address_of.is ∙ c.address_of.ensures) c.eq.result c.eq.ensures

pub returns-in-None : goal.returns-in-None
returns-in-None g c =
    of_stranger g.D.PartialEq.eq c.args.self.now.peers c.args.bytes.now c.args.from c.in-Some.sender c.if-sender-eq0.false (sym c.in-Some.is ∙ c.sender_of.ensures)
    (sym c.in-None.is ∙ c.address_of.ensures)
