use Rattle.std.proofs.Common.{◌≡◌, true, sym, subst}
use Rattle.paxos.specs.Sound.{Sound}
use Rattle.world.specs.Held.{shown}
use Rattle.events.specs.Events.{event_of, is_for}
use Rattle.world.specs.Reached.{Follows, HappenedOver}
use Rattle.world.specs.Shown.{World}
use Rattle.world.proofs.Given.{ok_so}
use Rattle.world.proofs.world.World.happen.Goals as goal

pub happen-requires-clause-named : goal.happen-requires-clause-named
happen-requires-clause-named g c = subst (λ (w : World g.row.R.Denot g.row.A.Denot). is_for w.members c.args.event.now ≡ true) (sym c.self.view_is) c.requires.named

pub returns-clause-happened : goal.returns-clause-happened
returns-clause-happened g c =
    ok_so c.happen.result _ _
    (λ f. subst (λ (w : World g.row.R.Denot g.row.A.Denot). Follows {R = g.row.R.Denot} {A = g.row.A.Denot} g.R.Records.stands g.R.Records.is_kept g.A.Application.has_applied (Sound w.members) (HappenedOver g.R.Records.failed g.R.Records.fates w.seats c.happen.new.self.seats.items (g.A.Application.meaning w.names) (event_of c.args.event.now)) w (shown c.happen.new.self)) c.self.view_is f)
    c.happen.ensures.happened
