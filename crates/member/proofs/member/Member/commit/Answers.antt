use Rattle.member.proofs.Joining.{took_made}
use Rattle.member.proofs.member.Member.commit.Goals as goal

pub returns-clause-took : goal.returns-clause-took
returns-clause-took g c = λ app i u comes this plans.
    let s = c.in_ok-make.ensures.range in
    took_made {R = g.row.R.Denot} app i u c.args.self.now c.make.new.self c.args.draft s.0 s.1 s.2 comes this plans (c.in_ok-make.ensures.made this.runs)
