use Rattle.std.proofs.Common.{◌≡◌, ◌<◌, Option, arith, inl, inr, length, subst}
use Rattle.std.specs.Option.{option_map}
use Rattle.paxos.specs.Lists.{at}
use Rattle.world.specs.Posts.{packet_of, sent_in}
use Rattle.world.specs.declared.mail.Delivery.{Delivery}
use Rattle.world.proofs.Posted.{to_nobody}
use Rattle.world.proofs.state.State.to_member.Goals as goal

pub returns-then-delivery-eq0-clause-none : goal.returns-then-delivery-eq0-clause-none
returns-then-delivery-eq0-clause-none g c = λ none p there.
    let self = c.args.self.now in
    let d = c.in_ok-delivery.delivery in
    let sent = subst (λ (o : Option Delivery). option_map (packet_of self.group self.mail.messages.items) o ≡ at (sent_in self.group self.mail) c.args.number) c.in_ok-delivery.was (c.delivery.ensures.sent self.group) in
    to_nobody self.group self.mail.messages.items d self.seats.items _ sent (inl c.if-delivery-eq0.true) p there

pub returns-then-delivery-count-clause-none : goal.returns-then-delivery-count-clause-none
returns-then-delivery-count-clause-none g c = λ none p there.
    let self = c.args.self.now in
    let d = c.in_ok-delivery.delivery in
    let sent = subst (λ (o : Option Delivery). option_map (packet_of self.group self.mail.messages.items) o ≡ at (sent_in self.group self.mail) c.args.number) c.in_ok-delivery.was (c.delivery.ensures.sent self.group) in
    let beyond : length self.seats.items < d.target = omega (arith, c.requires.held.size, c.count.ensures.count, c.if-delivery-count.true) in
    to_nobody self.group self.mail.messages.items d self.seats.items _ sent (inr beyond) p there
