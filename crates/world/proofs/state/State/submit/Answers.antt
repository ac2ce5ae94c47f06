use Rattle.std.proofs.Common.{false, refl}
use Rattle.paxos.specs.Sound.{Sound}
use Rattle.world.specs.Held.{shown}
use Rattle.world.specs.Reached.{HaveDone}
use Rattle.world.proofs.Given.{err_so, ok_so}
use Rattle.world.proofs.Placing.{nothing_done, seat_there, unchanged}
use Rattle.world.proofs.Resting.{submitted}
use Rattle.world.proofs.state.State.submit.Goals as goal

pub returns-clause-happened : goal.returns-clause-happened
returns-clause-happened g c =
    let self = c.args.self.now in
    let s = seat_there self c.args.number c.requires.held c.requires.least c.requires.most in
    ok_so c.submit.result _ _ (λ asked.
    submitted {R = g.row.R.Denot} {A = g.row.A.Denot} g.R.Records.stands g.R.Records.is_kept g.A.Application.has_applied (HaveDone g.R.Records.failed g.R.Records.fates false self.seats.items self.seats.items) (nothing_done {R = g.row.R.Denot} {A = g.row.A.Denot} g.R.Records.failed g.R.Records.fates false self.seats.items self.seats.items (λ j. refl)) (g.A.Application.meaning self.names) self.members c.requires.held.most (shown self) c.args.number s.0 s.1 c.args.request.now
    (shown (record { members = self.members; group = self.group; names = self.names; seats = self.seats; mail = c.submit.new.self; told = self.told })) (rw asked refl)) c.submit.ensures.asked

pub returns-clause-refused : goal.returns-clause-refused
returns-clause-refused g c =
    let self = c.args.self.now in
    err_so c.submit.result _ _ (λ same. unchanged {R = g.row.R.Denot} {A = g.row.A.Denot} g.R.Records.stands g.R.Records.is_kept g.A.Application.has_applied (Sound self.members) self
    (record { members = self.members; group = self.group; names = self.names; seats = self.seats; mail = c.submit.new.self; told = self.told }) (rw same refl)) c.submit.ensures.refused
