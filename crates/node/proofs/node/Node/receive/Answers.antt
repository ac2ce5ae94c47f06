use Rattle.std.proofs.Common.{subst}
use Rattle.ballots.specs.Terms.{Setup}
use Rattle.member.specs.Steps.{Hears}
use Rattle.node.specs.Nodes.{IsFrom}
use Rattle.node.proofs.Spelt.{if_so}
use Rattle.node.proofs.Stepping.{since}
use Rattle.node.proofs.node.Node.receive.Goals as goal

pub returns-clause-took : goal.returns-clause-took
returns-clause-took g c =
    let old = c.args.self.now in
    let mid = c.draft.new.self in
    let same = c.draft.ensures.same in
    let d = c.in_ok-draft.ensures.drafted in
    if_so c.commit.result _ _ (λ o took. (
      d.0,
      subst (λ (s : Setup). IsFrom s c.args.bytes.now d.0) same.setup d.1,
      since {R = g.row.R.Denot} {A = g.row.A.Denot} g.A.Application.has_applied g.A.Application.meaning (Hears d.0) old mid c.commit.new.self o same (took (Hears d.0) d.2),
    )) c.commit.ensures.took
