use Rattle.std.proofs.Common.{rules, length, ◌-◌}
use Rattle.world.specs.Posts.{packet_of}
use Rattle.world.proofs.Posted.{at_read, there_read}
use Rattle.world.proofs.mail.Mail.delivery.Goals as goal

pub returns-clause-sent : goal.returns-clause-sent
returns-clause-sent c = λ group. at_read (packet_of group c.args.self.now.messages.items) c.args.self.now.deliveries.items c.args.number c.index.result.now (search rules) (search rules) c.index.ensures

pub returns-clause-there : goal.returns-clause-there
returns-clause-there c = λ whole. there_read (length c.args.self.now.messages.items) c.args.self.now.deliveries.items (c.args.number - 1) c.index.result.now whole (search rules) c.index.ensures
