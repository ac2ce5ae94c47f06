use Rattle.std.proofs.Common.{[], ◌∷◌}
use Rattle.member.specs.declared.input.Tick.TheVariants.{Begin}
use Rattle.server_steps.specs.Moves.{Ticked}
use Rattle.server_steps.proofs.Beside.{beside, halted_beside}
use Rattle.serving.proofs.Closing.{just_by_err, went_by_closing}
use Rattle.server_steps.specs.Going.{Server, has_brought_beside, shown, was_given_or_held}
use Rattle.serving.proofs.server.Server.begin.Goals as goal

pub returns-in_err-begin-clause-went : goal.returns-in_err-begin-clause-went
returns-in_err-begin-clause-went g c =
    let x : Server g.row.R.Denot g.row.A.Denot g.row.D.Denot = shown c.self.inside.state in
    let z : Server g.row.R.Denot g.row.A.Denot g.row.D.Denot = shown c.begin.new.self in
    rw (← c.self.view_is) (just_by_err {R = g.row.R.Denot} {A = g.row.A.Denot} {D = g.row.D.Denot} g.A.Application.has_applied g.A.Application.meaning g.R.Records.failed g.D.PartialEq.eq (was_given_or_held g.W.Wire.was_given) (has_brought_beside g.W.Wire.has_brought) c.from_residual.result (Ticked Begin ∷ []) x z (x.held, c.args.wire.now) (z.held, c.args.wire.now) g.R.Records.stands g.R.Records.is_kept g.R.Records.base g.R.FlushRecords.leaves c.from_residual.ensures.0
    (halted_beside {R = g.row.R.Denot} {A = g.row.A.Denot} {D = g.row.D.Denot} g.A.Application.has_applied g.A.Application.meaning g.R.Records.failed g.D.PartialEq.eq g.W.Wire.was_given g.W.Wire.has_brought g.R.Records.stands g.R.Records.is_kept g.R.Records.base g.R.FlushRecords.leaves x z x.held z.held c.args.wire.now c.in_err-begin.ensures))

pub returns-clause-went : goal.returns-clause-went
returns-clause-went g c =
    let x : Server g.row.R.Denot g.row.A.Denot g.row.D.Denot = shown c.self.inside.state in
    let y : Server g.row.R.Denot g.row.A.Denot g.row.D.Denot = shown c.begin.new.self in
    let z : Server g.row.R.Denot g.row.A.Denot g.row.D.Denot = c.close.new.self.server in
    rw (← c.self.view_is) (went_by_closing {R = g.row.R.Denot} {A = g.row.A.Denot} {D = g.row.D.Denot} g.A.Application.has_applied g.A.Application.meaning g.R.Records.failed g.D.PartialEq.eq (was_given_or_held g.W.Wire.was_given) (has_brought_beside g.W.Wire.has_brought) c.close.result (Ticked Begin) x y z (x.held, c.args.wire.now) (y.held, c.args.wire.now) (z.held, c.close.new.wire) g.R.Records.stands g.R.Records.is_kept g.R.Records.base g.R.FlushRecords.leaves
    (beside {R = g.row.R.Denot} {A = g.row.A.Denot} {D = g.row.D.Denot} g.A.Application.has_applied g.A.Application.meaning g.R.Records.failed g.D.PartialEq.eq g.W.Wire.was_given g.W.Wire.has_brought x y x.held y.held c.args.wire.now (Ticked Begin ∷ []) c.in_ok-begin.ensures) c.close.ensures.stays c.close.ensures.halted c.close.ensures.place c.close.ensures.word c.close.ensures.waiting c.close.ensures.given c.close.ensures.brought)
