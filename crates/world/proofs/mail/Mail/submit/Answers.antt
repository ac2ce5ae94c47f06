use Rattle.std.proofs.Common.{rules, ◌≡◌, length}
use Rattle.member.specs.declared.outcome.Target.TheVariants.{One}
use Rattle.node.specs.declared.outbox.Sent.{Sent}
use Rattle.world.proofs.Posted.{asked, whole_asked}
use Rattle.world.proofs.mail.Mail.submit.Goals as goal

pub returns-clause-whole : goal.returns-clause-whole
returns-clause-whole c =
    let len : c.len.result ≡ length c.args.self.now.messages.items = search rules in
    let sent : Sent = record { to = One c.args.target; bytes = c.in_ok-spelt.field-0 } in
    rw c.push_reserved-2.ensures.items (rw c.reserve.ensures.items (rw c.push_reserved.ensures.items (rw c.reserve-2.ensures.items (rw len
    (whole_asked c.args.self.now.messages.items c.args.self.now.deliveries.items c.args.target sent c.requires.whole)))))

pub returns-clause-asked : goal.returns-clause-asked
returns-clause-asked c =
    let len : c.len.result ≡ length c.args.self.now.messages.items = search rules in
    let sent : Sent = record { to = One c.args.target; bytes = c.in_ok-spelt.field-0 } in
    rw c.push_reserved-2.ensures.items (rw c.reserve.ensures.items (rw c.push_reserved.ensures.items (rw c.reserve-2.ensures.items (rw len
    (asked c.args.group c.args.self.now.messages.items c.args.self.now.deliveries.items c.args.target sent c.args.request.now c.requires.whole c.in_ok-spelt.ensures.reads)))))
