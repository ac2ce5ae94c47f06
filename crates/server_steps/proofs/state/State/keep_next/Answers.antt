use Rattle.std.proofs.Common.{arith, [], ◌∷◌, refl}
use Rattle.std.proofs.lemmas.Bool.{ltb-false}
use Rattle.member.specs.declared.input.Tick.TheVariants.{Keep}
use Rattle.server_steps.specs.Moves.{Ticked}
use Rattle.server_steps.proofs.Going.{no_begin, on_any, on_just, on_none}
use Rattle.server_steps.proofs.Keeping.{goes_keeping}
use Rattle.server_steps.specs.Going.{AreAny, AreHeld, Server, shown}
use Rattle.server_steps.proofs.state.State.keep_next.Goals as goal

pub returns-then-kept-learnt-clause-went : goal.returns-then-kept-learnt-clause-went
returns-then-kept-learnt-clause-went g c = on_none {R = g.row.R.Denot} {A = g.row.A.Denot} {D = g.row.D.Denot} g.A.Application.has_applied g.A.Application.meaning g.R.Records.failed g.D.PartialEq.eq AreHeld AreAny _ _

pub returns-clause-went : goal.returns-clause-went
returns-clause-went g c =
    on_any {R = g.row.R.Denot} {A = g.row.A.Denot} {D = g.row.D.Denot} g.A.Application.has_applied g.A.Application.meaning g.R.Records.failed g.D.PartialEq.eq AreHeld AreAny (Ticked Keep ∷ []) [] [] _ _ _ _
    (on_just {R = g.row.R.Denot} {A = g.row.A.Denot} {D = g.row.D.Denot} g.A.Application.has_applied g.A.Application.meaning g.R.Records.failed g.D.PartialEq.eq AreHeld AreAny (Ticked Keep ∷ []) [] _ _ _ _ refl (no_begin Keep (λ e. cc)) c.in_ok-tick_once.ensures)

pub returns-clause-kept : goal.returns-clause-kept
returns-clause-kept g c is has u r most =
    let x : Server g.row.R.Denot g.row.A.Denot g.row.D.Denot = shown c.args.self.now in
    let y : Server g.row.R.Denot g.row.A.Denot g.row.D.Denot = shown c.tick_once.new.self in
    let before = c.kept-kept.ensures in
    let few = c.if-kept-learnt.false in
    let after = c.kept.ensures in
    let more = goes_keeping {R = g.row.R.Denot} {A = g.row.A.Denot} g.A.Application.has_applied g.A.Application.meaning g.R.Records.failed g.D.PartialEq.eq AreHeld AreAny x y x.held y.held [] u c.in_ok-tick_once.ensures r has (omega (arith, before, few, most)) in
    let less = ltb-false _ _ is in
    absurd (omega (arith, before, after, more, less))
