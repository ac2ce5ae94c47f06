use Rattle.std.proofs.Common.{◌≡◌, ◌∙◌, List, length, subst, ℕ}
use Rattle.ballots.specs.Replies.{answered}
use Rattle.ballots.specs.declared.value.Value.{Value}
use Rattle.paxos.specs.Knowledge.{news}
use Rattle.paxos.specs.Step.{values_of}
use Rattle.node.specs.Nodes.{Node}
use Rattle.node.proofs.Going.{values_count}
use Rattle.node.proofs.node.Node.answer.Goals as goal

pub returns-then-applied-floor-clause-reads : goal.returns-then-applied-floor-clause-reads
returns-then-applied-floor-clause-reads g c = λ u r.
    let x = c.args.self.now in
    let means = subst (λ (x : Node g.row.R.Denot g.row.A.Denot). (names : List (List ℕ)) (values : List Value) → g.A.Application.has_applied names values x.application → c.applied-applied.result ≡ length values) c.self.view_is c.applied-applied.ensures.means in
    (means x.setup.names (values_of x.setup.members u) r.applied ∙ values_count x.setup.members (news u.heard) u.applied r.most, c.if-applied-floor.true)

pub returns-clause-reads : goal.returns-clause-reads
returns-clause-reads g c = λ u r.
    let x = c.args.self.now in
    let means = subst (λ (x : Node g.row.R.Denot g.row.A.Denot). (names : List (List ℕ)) (values : List Value) → g.A.Application.has_applied names values x.application → c.applied-applied.result ≡ length values) c.self.view_is c.applied-applied.ensures.means in
    let answers = subst (λ (x : Node g.row.R.Denot g.row.A.Denot). (names : List (List ℕ)) (values : List Value) → g.A.Application.has_applied names values x.application → answered c.in_ok-answer.answer ≡ (g.A.Application.meaning names).answer values c.args.level c.args.text.now) c.self.view_is c.in_ok-answer.ensures.means in
    (means x.setup.names (values_of x.setup.members u) r.applied ∙ values_count x.setup.members (news u.heard) u.applied r.most, c.if-applied-floor.false, answers x.setup.names (values_of x.setup.members u) r.applied)
