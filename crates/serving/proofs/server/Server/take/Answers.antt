use Rattle.std.proofs.Common.{[], ◌∷◌}
use Rattle.server_steps.specs.Moves.{Took}
use Rattle.server_steps.proofs.Beside.{halted_beside, on_beside}
use Rattle.serving.proofs.Closing.{went_closing}
use Rattle.server_steps.proofs.Going.{went_err}
use Rattle.server_steps.proofs.Keeping.{kept_still}
use Rattle.server_steps.proofs.Outcomes.{on_ok}
use Rattle.server_steps.specs.Going.{Server, has_brought_beside, shown, was_given_or_held}
use Rattle.serving.proofs.server.Server.take.Goals as goal

pub returns-in_err-take_and_keep-clause-went : goal.returns-in_err-take_and_keep-clause-went
returns-in_err-take_and_keep-clause-went g c =
    let x : Server g.row.R.Denot g.row.A.Denot g.row.D.Denot = shown c.self.inside.state in
    let z : Server g.row.R.Denot g.row.A.Denot g.row.D.Denot = shown c.take_and_keep.new.self in
    rw (← c.self.view_is) (went_err {R = g.row.R.Denot} {A = g.row.A.Denot} {D = g.row.D.Denot} g.A.Application.has_applied g.A.Application.meaning g.R.Records.failed g.D.PartialEq.eq (was_given_or_held g.W.Wire.was_given) (has_brought_beside g.W.Wire.has_brought) g.R.Records.stands g.R.Records.is_kept g.R.Records.base g.R.FlushRecords.leaves c.from_residual.result _ _ _ x z (x.held, c.args.wire.now) (z.held, c.args.wire.now) c.from_residual.ensures.0
    (halted_beside {R = g.row.R.Denot} {A = g.row.A.Denot} {D = g.row.D.Denot} g.A.Application.has_applied g.A.Application.meaning g.R.Records.failed g.D.PartialEq.eq g.W.Wire.was_given g.W.Wire.has_brought g.R.Records.stands g.R.Records.is_kept g.R.Records.base g.R.FlushRecords.leaves x z x.held z.held c.args.wire.now c.in_err-take_and_keep.ensures.went))

pub returns-clause-went : goal.returns-clause-went
returns-clause-went g c =
    let x : Server g.row.R.Denot g.row.A.Denot g.row.D.Denot = shown c.self.inside.state in
    let y : Server g.row.R.Denot g.row.A.Denot g.row.D.Denot = shown c.take_and_keep.new.self in
    let z : Server g.row.R.Denot g.row.A.Denot g.row.D.Denot = c.close.new.self.server in
    rw (← c.self.view_is) (went_closing {R = g.row.R.Denot} {A = g.row.A.Denot} {D = g.row.D.Denot} g.A.Application.has_applied g.A.Application.meaning g.R.Records.failed g.D.PartialEq.eq (was_given_or_held g.W.Wire.was_given) (has_brought_beside g.W.Wire.has_brought) c.close.result (Took (record { end = c.args.arrival.end; peer = c.args.arrival.from; bytes = c.args.bytes.now })) [] ((record { end = c.args.arrival.end; peer = c.args.arrival.from; bytes = c.args.bytes.now }) ∷ []) x y z (x.held, c.args.wire.now) (y.held, c.args.wire.now) (z.held, c.close.new.wire) g.R.Records.stands g.R.Records.is_kept g.R.Records.base g.R.FlushRecords.leaves
    (on_beside {R = g.row.R.Denot} {A = g.row.A.Denot} {D = g.row.D.Denot} g.A.Application.has_applied g.A.Application.meaning g.R.Records.failed g.D.PartialEq.eq g.W.Wire.was_given g.W.Wire.has_brought (Took (record { end = c.args.arrival.end; peer = c.args.arrival.from; bytes = c.args.bytes.now }) ∷ []) ((record { end = c.args.arrival.end; peer = c.args.arrival.from; bytes = c.args.bytes.now }) ∷ []) x y x.held y.held c.args.wire.now c.in_ok-take_and_keep.ensures.went) c.close.ensures.stays c.close.ensures.halted c.close.ensures.place c.close.ensures.word c.close.ensures.waiting c.close.ensures.given c.close.ensures.brought)

pub returns-clause-kept : goal.returns-clause-kept
returns-clause-kept g c =
    let x : Server g.row.R.Denot g.row.A.Denot g.row.D.Denot = shown c.self.inside.state in
    let y : Server g.row.R.Denot g.row.A.Denot g.row.D.Denot = shown c.take_and_keep.new.self in
    let z : Server g.row.R.Denot g.row.A.Denot g.row.D.Denot = c.close.new.self.server in
    rw (← c.self.view_is) (on_ok c.close.result c.close.ensures.stays (λ stays. kept_still {R = g.row.R.Denot} {A = g.row.A.Denot} g.A.Application.has_applied g.A.Application.meaning g.R.Records.failed x.seat y.seat z.seat stays c.in_ok-take_and_keep.ensures.kept))
