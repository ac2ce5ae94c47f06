use Rattle.std.proofs.Common.{[], ◌∷◌}
use Rattle.member.specs.declared.input.Tick.TheVariants.{CatchUp, Resend}
use Rattle.server_steps.specs.Moves.{Ticked}
use Rattle.server_steps.proofs.Going.{on_none, went_hearing}
use Rattle.server_steps.specs.Going.{AreAny, AreHeld}
use Rattle.server_steps.proofs.state.State.tick_if_due.Goals as goal

pub returns-then-not-has_passed : goal.returns-then-not-has_passed
returns-then-not-has_passed g c = on_none {R = g.row.R.Denot} {A = g.row.A.Denot} {D = g.row.D.Denot} g.A.Application.has_applied g.A.Application.meaning g.R.Records.failed g.D.PartialEq.eq AreHeld AreAny _ _

pub returns : goal.returns
returns g c =
    went_hearing {R = g.row.R.Denot} {A = g.row.A.Denot} {D = g.row.D.Denot} g.A.Application.has_applied g.A.Application.meaning g.R.Records.failed g.D.PartialEq.eq AreHeld AreAny g.R.Records.stands g.R.Records.is_kept g.R.Records.base g.R.FlushRecords.leaves c.tick.result (Ticked Resend ∷ Ticked CatchUp ∷ []) [] [] _ _ _ _ _ (λ ds h. h) (λ ds b. tt) c.tick.ensures
