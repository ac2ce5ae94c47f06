use Rattle.std.proofs.Common.{subst}
use Rattle.world.specs.Shown.{World, AreSeats}
use Rattle.world.proofs.Staying.{ran_follows, rested_follows, stay_alike}
use Rattle.world.proofs.world.World.follows.Goals as goal

pub returns-clause-kept : goal.returns-clause-kept
returns-clause-kept g c = λ earlier app events ran.
    (ran_follows {R = g.row.R.Denot} {A = g.row.A.Denot} g.R.Records.stands g.R.Records.is_kept g.A.Application.has_applied g.R.Records.failed g.R.Records.fates app events earlier c.args.self.now ran).kept

pub returns-clause-ran : goal.returns-clause-ran
returns-clause-ran g c = λ earlier before events few seats was ran kept.
    let app = g.A.Application.meaning earlier.names in
    stay_alike {R = g.row.R.Denot} {A = g.row.A.Denot} g.R.Records.stands g.R.Records.is_kept g.A.Application.has_applied g.R.Records.failed g.R.Records.fates app earlier c.args.self.now few seats
    (subst (λ (x : World g.row.R.Denot g.row.A.Denot). AreSeats x) c.self.view_is c.self.invariant.seats)
    before events was
    (ran_follows {R = g.row.R.Denot} {A = g.row.A.Denot} g.R.Records.stands g.R.Records.is_kept g.A.Application.has_applied g.R.Records.failed g.R.Records.fates app events earlier c.args.self.now ran)
    kept

pub returns-clause-rested : goal.returns-clause-rested
returns-clause-rested g c = λ earlier last before events few seats was ran still kept.
    let app = g.A.Application.meaning earlier.names in
    stay_alike {R = g.row.R.Denot} {A = g.row.A.Denot} g.R.Records.stands g.R.Records.is_kept g.A.Application.has_applied g.R.Records.failed g.R.Records.fates app earlier c.args.self.now few seats
    (subst (λ (x : World g.row.R.Denot g.row.A.Denot). AreSeats x) c.self.view_is c.self.invariant.seats)
    before events was
    (rested_follows {R = g.row.R.Denot} {A = g.row.A.Denot} g.R.Records.stands g.R.Records.is_kept g.A.Application.has_applied g.R.Records.failed g.R.Records.fates app events earlier last c.args.self.now ran still)
    kept
