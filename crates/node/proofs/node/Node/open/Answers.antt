use Rattle.std.proofs.Common.{◌∙◌, List, [], subst, sym, ℕ}
use Rattle.member.specs.Steps.{IsThis}
use Rattle.paxos.specs.Step.{resumed}
use Rattle.paxos.specs.WellFormed.{IsRecord}
use Rattle.node.specs.Nodes.{Node}
use Rattle.node.proofs.Starting.{started}
use Rattle.node.proofs.node.Node.open.Goals as goal

pub returns-in-Ok-open-clause-started : goal.returns-in-Ok-open-clause-started
returns-in-Ok-open-clause-started g c = λ is.
    let x : Node g.row.R.Denot g.row.A.Denot = record { setup = c.args.setup; member = c.in-Ok-open.member; application = c.apply_learnt-is_short.new.application } in
    let this = c.in-Ok-open.ensures.started (subst (λ n. IsRecord n x.member.acceptor.kept) (sym c.members.ensures) is) in
    started {R = g.row.R.Denot} {A = g.row.A.Denot} g.A.Application.has_applied x c.in-Ok.application c.apply_learnt-is_short.result
    (c.in-Ok-open.ensures.place.0 ∙ c.members.ensures) is.learnt (subst (λ m. IsThis {R = g.row.R.Denot} (resumed m x.member.acceptor.kept) x.member) c.member.ensures.member this)
    (subst (λ (names : List (List ℕ)). g.A.Application.has_applied names [] c.in-Ok.application) c.names.ensures c.in-Ok.ensures) c.apply_learnt-is_short.ensures.gone

pub returns-in-Ok-open-clause-begun : goal.returns-in-Ok-open-clause-begun
returns-in-Ok-open-clause-begun g c = λ suits. returns-in-Ok-open-clause-started g c (c.in-Ok-open.ensures.suits c.args.setup.members suits)
