use Rattle.member.specs.Steps.{ticked}
use Rattle.node.proofs.Spelt.{if_so}
use Rattle.node.proofs.Stepping.{since}
use Rattle.node.proofs.node.Node.tick.Goals as goal

pub returns-clause-took : goal.returns-clause-took
returns-clause-took g c =
    if_so c.commit.result _ _ (λ o took. since {R = g.row.R.Denot} {A = g.row.A.Denot} g.A.Application.has_applied g.A.Application.meaning (ticked c.args.tick) c.args.self.now c.draft_tick.new.self c.commit.new.self o
    c.draft_tick.ensures.same (took (ticked c.args.tick) c.in_ok-draft.ensures.drafted)) c.commit.ensures.took
