use Rattle.std.proofs.Common.{◌∙◌, ℕ, ap, map, refl, subst, sym}
use Rattle.member.specs.Steps.{Input, MayCome, all_packets}
use Rattle.paxos.specs.Lists.{Has}
use Rattle.paxos.specs.Step.{Running}
use Rattle.node.specs.Nodes.{IsDrafted, Node, RunsAs, Took, spelt, step_of}
use Rattle.node.specs.declared.outbox.Outbox.{Outbox}
use Rattle.node.proofs.Stepping.{member_plans, member_took, stepped}
use Rattle.node.proofs.node.Node.commit.Goals as goal

pub returns-in-Ok-clause-took : goal.returns-in-Ok-clause-took
returns-in-Ok-clause-took g c =
    let s = c.self.inside in
    let old : Node g.row.R.Denot g.row.A.Denot = record { setup = s.setup; member = s.member; application = s.application } in
    let new : Node g.row.R.Denot g.row.A.Denot = record { setup = s.setup; member = c.commit.new.self; application = c.apply_learnt-is_short.new.application } in
    let o : Outbox = record { sent = c.args.draft.sent; tells = c.in-Ok.outcome.tells; is_short = c.apply_learnt-is_short.result } in
    subst (λ (x : Node g.row.R.Denot g.row.A.Denot). (i : Input) → IsDrafted {R = g.row.R.Denot} {A = g.row.A.Denot} g.A.Application.has_applied (g.A.Application.meaning x.setup.names) i x c.args.draft
    → (u : Running) → RunsAs {R = g.row.R.Denot} {A = g.row.A.Denot} g.A.Application.has_applied u x
    → (j : ℕ) × Took {R = g.row.R.Denot} {A = g.row.A.Denot} g.A.Application.has_applied (step_of (g.A.Application.meaning x.setup.names) x u i j) x new o) c.self.view_is (λ i drafted u r.
    let app = g.A.Application.meaning s.setup.names in
    let plans = member_plans {R = g.row.R.Denot} {A = g.row.A.Denot} app i u old c.args.draft.member c.self.invariant.0 c.self.invariant.1 (drafted.plans u r) in
    let took = c.in-Ok.ensures.took app i u (subst (λ n. MayCome n i) (sym c.self.invariant.0) drafted.comes) r.this plans in
    stepped {R = g.row.R.Denot} {A = g.row.A.Denot} g.A.Application.has_applied app i u old new c.in-Ok.outcome o c.self.invariant.0 c.self.invariant.1 refl r
    (member_took {R = g.row.R.Denot} {A = g.row.A.Denot} app i u old c.commit.new.self c.in-Ok.outcome c.self.invariant.0 c.self.invariant.1 took)
    c.apply_learnt-is_short.ensures.gone
    (drafted.sends ∙ ap (λ xs. map (spelt s.setup.group) (all_packets s.setup.members s.setup.member xs)) (sym c.in-Ok.ensures.says.0))
    (λ k h. drafted.reads u r k (subst (λ xs. Has (all_packets s.setup.members s.setup.member xs) k) c.in-Ok.ensures.says.0 h))
    refl c.self.invariant.2.0 c.self.invariant.2.1 c.self.invariant.2.2 drafted.comes)
