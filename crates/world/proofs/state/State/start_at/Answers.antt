use Rattle.std.proofs.Common.{false, refl}
use Rattle.world.specs.Held.{shown}
use Rattle.world.proofs.Lifting.{so}
use Rattle.world.specs.Reached.{HaveDone}
use Rattle.world.proofs.Happening.{start_so, steps_so}
use Rattle.world.proofs.Given.{ok_so}
use Rattle.world.proofs.Placing.{have_done, nothing_done, seat_there}
use Rattle.world.proofs.Stopping.{start_happens}
use Rattle.world.proofs.state.State.start_at.Goals as goal

pub returns-clause-happened : goal.returns-clause-happened
returns-clause-happened g c =
    let self = c.args.self.now in
    let number = c.args.number in
    let s = seat_there self number c.requires.held c.requires.least c.requires.most in
    ok_so c.start.result _ _ (λ started.
    let app = g.A.Application.meaning self.names in
    start_happens {R = g.row.R.Denot} {A = g.row.A.Denot} g.R.Records.stands g.R.Records.is_kept g.A.Application.has_applied (HaveDone g.R.Records.failed g.R.Records.fates false self.seats.items c.start.new.self.seats.items) app self c.start.new.self number s.0 s.1 c.requires.held
    (λ none. so _ _ (shown self) (shown c.start.new.self)
    (λ v z sound step. steps_so {R = g.row.R.Denot} {A = g.row.A.Denot} g.A.Application.has_applied _ _ (start_so _ _ (have_done {R = g.row.R.Denot} {A = g.row.A.Denot} g.R.Records.failed g.R.Records.fates false self.seats.items self.seats.items c.start.new.self.seats.items number (λ j. refl) c.start.ensures.others) self.members number) (shown self) s.0 number v z step)
    (started s.0 s.1 none))
    (λ some. (c.start.ensures.runs s.0 s.1 some, nothing_done {R = g.row.R.Denot} {A = g.row.A.Denot} g.R.Records.failed g.R.Records.fates false self.seats.items c.start.new.self.seats.items (c.start.ensures.same s.0 s.1 some)))) c.start.ensures.started
