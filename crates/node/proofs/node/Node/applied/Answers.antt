use Rattle.std.proofs.Common.{◌≡◌, ◌∙◌, List, length, subst, ℕ}
use Rattle.ballots.specs.declared.value.Value.{Value}
use Rattle.paxos.specs.Knowledge.{news}
use Rattle.paxos.specs.Step.{values_of}
use Rattle.node.specs.Nodes.{Node}
use Rattle.node.proofs.Going.{values_count}
use Rattle.node.proofs.node.Node.applied.Goals as goal

pub returns : goal.returns
returns g c = λ u r.
    let x = c.args.self.now in
    let means = subst (λ (x : Node g.row.R.Denot g.row.A.Denot). (names : List (List ℕ)) (values : List Value) → g.A.Application.has_applied names values x.application → c.applied.result ≡ length values) c.self.view_is c.applied.ensures.means in
    means x.setup.names (values_of x.setup.members u) r.applied ∙ values_count x.setup.members (news u.heard) u.applied r.most
