use Rattle.std.proofs.Common.{sym, subst}
use Rattle.paxos.specs.Sound.{Sound}
use Rattle.world.specs.Held.{shown}
use Rattle.events.specs.Events.{event_of}
use Rattle.world.specs.Reached.{Follows, HappenedOver}
use Rattle.events.specs.declared.event.Event.{Event}
use Rattle.world.proofs.state.State.happen.Goals as goal

pub returns-in-Stop-clause-happened : goal.returns-in-Stop-clause-happened
returns-in-Stop-clause-happened g c =
    subst (λ (e : Event). Follows {R = g.row.R.Denot} {A = g.row.A.Denot} g.R.Records.stands g.R.Records.is_kept g.A.Application.has_applied (Sound c.args.self.now.members) (HappenedOver g.R.Records.failed g.R.Records.fates c.args.self.now.seats.items c.stop_at.new.self.seats.items (g.A.Application.meaning c.args.self.now.names) (event_of e)) (shown c.args.self.now) (shown c.stop_at.new.self))
    (sym c.in-Stop.is) c.stop_at.ensures.happened
