use Rattle.std.proofs.Common.{◌≡◌, Option, IfSome, length, subst}
use Rattle.node.specs.declared.outbox.Outbox.{Outbox}
use Rattle.world.specs.Posts.{all_deliveries}
use Rattle.world.proofs.Posted.{posted, told_posted, whole_posted}
use Rattle.world.proofs.state.State.note.Goals as goal

pub returns-in-Some-clause-whole : goal.returns-in-Some-clause-whole
returns-in-Some-clause-whole g c =
    let mail = c.args.self.now.mail in
    let planned = subst (λ (o : Option Outbox). IfSome o (λ x. c.args.plan.items ≡ all_deliveries c.args.self.now.members c.args.number (length mail.messages.items) x.sent.items)) c.in-Some.is c.requires.planned in
    rw c.post.ensures.messages (rw c.into_parts-sent.ensures.sent (rw c.post.ensures.deliveries (rw planned
    (whole_posted c.args.self.now.members c.args.number mail.messages.items c.in-Some.outbox.sent.items mail.deliveries.items c.requires.whole))))

pub returns-in-Some-clause-sent : goal.returns-in-Some-clause-sent
returns-in-Some-clause-sent g c =
    let mail = c.args.self.now.mail in
    let planned = subst (λ (o : Option Outbox). IfSome o (λ x. c.args.plan.items ≡ all_deliveries c.args.self.now.members c.args.number (length mail.messages.items) x.sent.items)) c.in-Some.is c.requires.planned in
    rw c.post.ensures.messages (rw c.into_parts-sent.ensures.sent (rw c.post.ensures.deliveries (rw planned (rw c.in-Some.is
    (posted c.args.self.now.group c.args.self.now.members c.args.number mail.messages.items c.in-Some.outbox.sent.items mail.deliveries.items c.requires.whole)))))

pub returns-in-Some-clause-told : goal.returns-in-Some-clause-told
returns-in-Some-clause-told g c = rw c.tell.ensures (rw c.into_parts-sent.ensures.tells (rw c.in-Some.is (told_posted c.args.number c.args.self.now.told.items c.in-Some.outbox.tells.items)))
