use Rattle.std.proofs.Common.{◌≡◌, ◌==◌, true, sym, ap, subst, ◌∙◌}
use Rattle.std.proofs.lemmas.Bool.{eqb-true, false≢true}
use Rattle.std.proofs.lemmas.Option.{same_Some}
use Rattle.node.specs.Nodes.{Node, RunsAs}
use Rattle.paxos.specs.Knowledge.{news, prefix}
use Rattle.world.proofs.Lifting.{eq_self}
use Rattle.world.proofs.seat.Seat.is_up_to_date.Goals as goal

pub returns-in-Some-clause-all : goal.returns-in-Some-clause-all
returns-in-Some-clause-all g c = λ same x u there runs.
    let mine = subst (λ (y : Node g.row.R.Denot g.row.A.Denot). RunsAs {R = g.row.R.Denot} {A = g.row.A.Denot} g.A.Application.has_applied u y) (same_Some x c.in-Some.node (sym there ∙ c.in-Some.is)) runs in
    sym (c.applied.ensures u mine) ∙ eqb-true c.applied.result c.prefix.result same ∙ c.prefix.ensures u mine
    ∙ ap (λ (y : Node g.row.R.Denot g.row.A.Denot). prefix y.setup.members (news u.heard)) (same_Some c.in-Some.node x (sym c.in-Some.is ∙ there))

pub returns-in-Some-clause-one : goal.returns-in-Some-clause-one
returns-in-Some-clause-one g c = λ other. (
  c.in-Some.node,
  c.in-Some.is,
  λ u runs same. false≢true (sym other ∙ subst (λ n. (c.applied.result == n) ≡ true) (c.applied.ensures u runs ∙ same ∙ sym (c.prefix.ensures u runs)) (eq_self c.applied.result)),
)
