use Rattle.std.proofs.Common.{[]}
use Rattle.server_steps.proofs.Going.{went_both}
use Rattle.server_steps.proofs.Keeping.{kept_since, on_further}
use Rattle.server_steps.proofs.Outcomes.{on_ok}
use Rattle.server_steps.specs.Going.{AreAny, AreHeld, Server, shown}
use Rattle.server_steps.proofs.state.State.tick_if_due_and_keep.Goals as goal

pub returns-clause-went : goal.returns-clause-went
returns-clause-went g c = went_both {R = g.row.R.Denot} {A = g.row.A.Denot} {D = g.row.D.Denot} g.A.Application.has_applied g.A.Application.meaning g.R.Records.failed g.D.PartialEq.eq AreHeld AreAny g.R.Records.stands g.R.Records.is_kept g.R.Records.base g.R.FlushRecords.leaves c.keep_learnt.result _ _ [] [] [] _ _ _ _ _ _ c.in_ok-tick_if_due.ensures c.keep_learnt.ensures.went

pub returns-clause-kept : goal.returns-clause-kept
returns-clause-kept g c =
    let x : Server g.row.R.Denot g.row.A.Denot g.row.D.Denot = shown c.args.self.now in
    let y : Server g.row.R.Denot g.row.A.Denot g.row.D.Denot = shown c.tick_if_due.new.self in
    let z : Server g.row.R.Denot g.row.A.Denot g.row.D.Denot = shown c.keep_learnt.new.self in
    on_ok c.keep_learnt.result c.keep_learnt.ensures.kept (λ kept has. kept_since {R = g.row.R.Denot} {A = g.row.A.Denot} g.A.Application.has_applied c.args.learnt x.seat.node y.seat.node z.seat.node (on_further {R = g.row.R.Denot} {A = g.row.A.Denot} g.A.Application.has_applied g.A.Application.meaning g.R.Records.failed g.D.PartialEq.eq AreHeld AreAny x y x.held y.held [] [] [] c.in_ok-tick_if_due.ensures) (kept has))
