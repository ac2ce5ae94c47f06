use Rattle.std.proofs.Common.{arith, []}
use Rattle.server_steps.proofs.Going.{halts_later, on_both, on_none, went_err}
use Rattle.server_steps.proofs.Keeping.{kept_since, on_further}
use Rattle.server_steps.specs.Going.{AreAny, AreHeld, Server, shown}
use Rattle.server_steps.proofs.state.State.keep_learnt.Goals as goal

pub loop-position-init : goal.loop-position-init
loop-position-init g c = (omega arith, on_none {R = g.row.R.Denot} {A = g.row.A.Denot} {D = g.row.D.Denot} g.A.Application.has_applied g.A.Application.meaning g.R.Records.failed g.D.PartialEq.eq AreHeld AreAny _ _)

pub loop-position-preserved : goal.loop-position-preserved
loop-position-preserved g c =
    let more = c.in_ok-keep_next.ensures.more c.if-not-branch.false in
    let before = c.loop-position.invariant.0 in (
      omega (arith, before, more),
      on_both {R = g.row.R.Denot} {A = g.row.A.Denot} {D = g.row.D.Denot} g.A.Application.has_applied g.A.Application.meaning g.R.Records.failed g.D.PartialEq.eq AreHeld AreAny [] [] [] [] [] _ _ _ _ _ _ c.loop-position.invariant.1 c.in_ok-keep_next.ensures.went,
    )

pub returns-in_err-keep_next-clause-went : goal.returns-in_err-keep_next-clause-went
returns-in_err-keep_next-clause-went g c =
    went_err {R = g.row.R.Denot} {A = g.row.A.Denot} {D = g.row.D.Denot} g.A.Application.has_applied g.A.Application.meaning g.R.Records.failed g.D.PartialEq.eq AreHeld AreAny g.R.Records.stands g.R.Records.is_kept g.R.Records.base g.R.FlushRecords.leaves c.from_residual.result _ _ _ _ _ _ _ c.from_residual.ensures.0
    (halts_later {R = g.row.R.Denot} {A = g.row.A.Denot} {D = g.row.D.Denot} g.A.Application.has_applied g.A.Application.meaning g.R.Records.failed g.D.PartialEq.eq AreHeld AreAny g.R.Records.stands g.R.Records.is_kept g.R.Records.base g.R.FlushRecords.leaves [] [] [] [] _ _ _ _ _ _ c.loop-position.invariant.1 c.in_err-keep_next.ensures.went)

pub returns-then-not-branch-clause-went : goal.returns-then-not-branch-clause-went
returns-then-not-branch-clause-went g c = on_both {R = g.row.R.Denot} {A = g.row.A.Denot} {D = g.row.D.Denot} g.A.Application.has_applied g.A.Application.meaning g.R.Records.failed g.D.PartialEq.eq AreHeld AreAny [] [] [] [] [] _ _ _ _ _ _ c.loop-position.invariant.1 c.in_ok-keep_next.ensures.went

pub returns-then-not-branch-clause-kept : goal.returns-then-not-branch-clause-kept
returns-then-not-branch-clause-kept g c has =
    let x : Server g.row.R.Denot g.row.A.Denot g.row.D.Denot = shown c.args.self.now in
    let y : Server g.row.R.Denot g.row.A.Denot g.row.D.Denot = shown c.loop-position.self in
    let z : Server g.row.R.Denot g.row.A.Denot g.row.D.Denot = shown c.keep_next.new.self in
    kept_since {R = g.row.R.Denot} {A = g.row.A.Denot} g.A.Application.has_applied c.args.learnt x.seat.node y.seat.node z.seat.node (on_further {R = g.row.R.Denot} {A = g.row.A.Denot} g.A.Application.has_applied g.A.Application.meaning g.R.Records.failed g.D.PartialEq.eq AreHeld AreAny x y x.held y.held [] [] [] c.loop-position.invariant.1) (c.in_ok-keep_next.ensures.kept c.if-not-branch.true has)
