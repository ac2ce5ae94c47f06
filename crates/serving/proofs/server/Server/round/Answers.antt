use Rattle.std.proofs.Common.{◌∙◌, [], ◌∷◌, Ok, ap, refl, inl, inr, arith, take}
use Rattle.member.specs.declared.input.Tick.TheVariants.{CatchUp, Resend}
use Rattle.server_steps.proofs.Beside.{given_beside}
use Rattle.serving.proofs.Rounding.{ended_after, said_first}
use Rattle.serving.proofs.Closing.{first_after}
use Rattle.server_steps.proofs.Going.{brought_none, brought_one, goes_hearing, halts_after, hears_first, passed_err, passed_none, passed_waiting}
use Rattle.server_steps.proofs.Said.{said_by, said_further}
use Rattle.server_steps.proofs.Outcomes.{any_err, on_err, on_ok}
use Rattle.server_steps.specs.Going.{Server, has_brought_beside, was_given_or_held}
use Rattle.server_steps.specs.Moves.{AreTurns, Ticked}
use Rattle.wires.specs.Wires.{carried_in}
use Rattle.serving.proofs.server.Server.round.Goals as goal

pub returns-in-Ok-Some-clause-took : goal.returns-in-Ok-Some-clause-took
returns-in-Ok-Some-clause-took g c =
    let a = c.in-Ok-Some.arrival in
    c.round_from.ensures.took c.args.wire.now c.receive.ensures.given
    (brought_one {R = g.row.R.Denot} {A = g.row.A.Denot} {D = g.row.D.Denot} g.A.Application.has_applied g.A.Application.meaning g.R.Records.failed g.D.PartialEq.eq g.W.Wire.was_given g.W.Wire.has_brought c.args.wire.now c.receive.new.self c.receive.result a c.receive.new.buffer (take a.length c.receive.new.buffer) (c.in-Ok-Some.is ∙ ap Ok c.in-Ok-Some.field-0-is) refl c.receive.ensures.brought)

pub returns-in_err-tick-in-Ok-None-clause-took : goal.returns-in_err-tick-in-Ok-None-clause-took
returns-in_err-tick-in-Ok-None-clause-took g c =
    let x : Server g.row.R.Denot g.row.A.Denot g.row.D.Denot = c.args.self.now.server in
    let z : Server g.row.R.Denot g.row.A.Denot g.row.D.Denot = c.tick.new.self.server in
    passed_err {R = g.row.R.Denot} {A = g.row.A.Denot} {D = g.row.D.Denot} g.A.Application.has_applied g.A.Application.meaning g.R.Records.failed g.D.PartialEq.eq (was_given_or_held g.W.Wire.was_given) (has_brought_beside g.W.Wire.has_brought) g.R.Records.stands g.R.Records.is_kept g.R.Records.base g.R.FlushRecords.leaves AreTurns c.from_residual.result _ x z (x.held, c.args.wire.now) (z.held, c.tick.new.wire) c.from_residual.ensures.0
    (halts_after {R = g.row.R.Denot} {A = g.row.A.Denot} {D = g.row.D.Denot} g.A.Application.has_applied g.A.Application.meaning g.R.Records.failed g.D.PartialEq.eq (was_given_or_held g.W.Wire.was_given) (has_brought_beside g.W.Wire.has_brought) g.R.Records.stands g.R.Records.is_kept g.R.Records.base g.R.FlushRecords.leaves x x z (x.held, c.args.wire.now) (x.held, c.receive.new.self) (z.held, c.tick.new.wire) [] [] [] (λ has. absurd has)
    (goes_hearing {R = g.row.R.Denot} {A = g.row.A.Denot} {D = g.row.D.Denot} g.A.Application.has_applied g.A.Application.meaning g.R.Records.failed g.D.PartialEq.eq (was_given_or_held g.W.Wire.was_given) (has_brought_beside g.W.Wire.has_brought) x (x.held, c.args.wire.now) (x.held, c.receive.new.self) [] (given_beside {R = g.row.R.Denot} {A = g.row.A.Denot} {D = g.row.D.Denot} g.A.Application.has_applied g.A.Application.meaning g.R.Records.failed g.D.PartialEq.eq g.W.Wire.was_given x.held c.args.wire.now c.receive.new.self c.receive.ensures.given)
    (brought_none {R = g.row.R.Denot} {A = g.row.A.Denot} {D = g.row.D.Denot} g.A.Application.has_applied g.A.Application.meaning g.R.Records.failed g.D.PartialEq.eq g.W.Wire.was_given g.W.Wire.has_brought c.args.wire.now c.receive.new.self c.receive.result c.receive.new.buffer (ap (λ q. carried_in q c.receive.new.buffer) (c.in-Ok-None.is ∙ ap Ok c.in-Ok-None.field-0-is)) c.receive.ensures.brought))
    c.in_err-tick-in-Ok-None.ensures.went)

pub returns-in_ok-tick-in-Ok-None-clause-took : goal.returns-in_ok-tick-in-Ok-None-clause-took
returns-in_ok-tick-in-Ok-None-clause-took g c =
    let x : Server g.row.R.Denot g.row.A.Denot g.row.D.Denot = c.args.self.now.server in
    let z : Server g.row.R.Denot g.row.A.Denot g.row.D.Denot = c.tick.new.self.server in
    passed_waiting {R = g.row.R.Denot} {A = g.row.A.Denot} {D = g.row.D.Denot} g.A.Application.has_applied g.A.Application.meaning g.R.Records.failed g.D.PartialEq.eq (was_given_or_held g.W.Wire.was_given) (has_brought_beside g.W.Wire.has_brought) g.R.Records.stands g.R.Records.is_kept g.R.Records.base g.R.FlushRecords.leaves x z (x.held, c.args.wire.now) (z.held, c.tick.new.wire)
    (hears_first {R = g.row.R.Denot} {A = g.row.A.Denot} {D = g.row.D.Denot} g.A.Application.has_applied g.A.Application.meaning g.R.Records.failed g.D.PartialEq.eq (was_given_or_held g.W.Wire.was_given) (has_brought_beside g.W.Wire.has_brought) (Ticked Resend ∷ Ticked CatchUp ∷ []) [] [] x z (x.held, c.args.wire.now) (x.held, c.receive.new.self) (z.held, c.tick.new.wire) (given_beside {R = g.row.R.Denot} {A = g.row.A.Denot} {D = g.row.D.Denot} g.A.Application.has_applied g.A.Application.meaning g.R.Records.failed g.D.PartialEq.eq g.W.Wire.was_given x.held c.args.wire.now c.receive.new.self c.receive.ensures.given)
    (brought_none {R = g.row.R.Denot} {A = g.row.A.Denot} {D = g.row.D.Denot} g.A.Application.has_applied g.A.Application.meaning g.R.Records.failed g.D.PartialEq.eq g.W.Wire.was_given g.W.Wire.has_brought c.args.wire.now c.receive.new.self c.receive.result c.receive.new.buffer (ap (λ q. carried_in q c.receive.new.buffer) (c.in-Ok-None.is ∙ ap Ok c.in-Ok-None.field-0-is)) c.receive.ensures.brought)
    c.in_ok-tick-in-Ok-None.ensures.went)

pub returns-in-Err-clause-took : goal.returns-in-Err-clause-took
returns-in-Err-clause-took g c =
    let x : Server g.row.R.Denot g.row.A.Denot g.row.D.Denot = c.args.self.now.server in
    passed_none {R = g.row.R.Denot} {A = g.row.A.Denot} {D = g.row.D.Denot} g.A.Application.has_applied g.A.Application.meaning g.R.Records.failed g.D.PartialEq.eq (was_given_or_held g.W.Wire.was_given) (has_brought_beside g.W.Wire.has_brought) g.R.Records.stands g.R.Records.is_kept g.R.Records.base g.R.FlushRecords.leaves x (x.held, c.args.wire.now) (x.held, c.receive.new.self)
    (goes_hearing {R = g.row.R.Denot} {A = g.row.A.Denot} {D = g.row.D.Denot} g.A.Application.has_applied g.A.Application.meaning g.R.Records.failed g.D.PartialEq.eq (was_given_or_held g.W.Wire.was_given) (has_brought_beside g.W.Wire.has_brought) x (x.held, c.args.wire.now) (x.held, c.receive.new.self) [] (given_beside {R = g.row.R.Denot} {A = g.row.A.Denot} {D = g.row.D.Denot} g.A.Application.has_applied g.A.Application.meaning g.R.Records.failed g.D.PartialEq.eq g.W.Wire.was_given x.held c.args.wire.now c.receive.new.self c.receive.ensures.given)
    (brought_none {R = g.row.R.Denot} {A = g.row.A.Denot} {D = g.row.D.Denot} g.A.Application.has_applied g.A.Application.meaning g.R.Records.failed g.D.PartialEq.eq g.W.Wire.was_given g.W.Wire.has_brought c.args.wire.now c.receive.new.self c.receive.result c.receive.new.buffer (ap (λ q. carried_in q c.receive.new.buffer) c.in-Err.is) c.receive.ensures.brought))

pub returns-in-Ok-Some-clause-acknowledged : goal.returns-in-Ok-Some-clause-acknowledged
returns-in-Ok-Some-clause-acknowledged g c =
    on_ok c.round_from.result c.round_from.ensures.acknowledged (λ first. first_after {R = g.row.R.Denot} {A = g.row.A.Denot} {D = g.row.D.Denot} g.A.Application.has_applied g.A.Application.meaning g.R.Records.failed g.D.PartialEq.eq g.W.Wire.was_given g.W.Wire.has_brought g.R.Records.is_kept g.R.FlushRecords.leaves c.round_from.new.self.server c.args.wire.now c.receive.new.self c.round_from.new.wire c.receive.ensures.given first)

pub returns-in-Ok-Some-clause-unsent : goal.returns-in-Ok-Some-clause-unsent
returns-in-Ok-Some-clause-unsent g c = on_err c.round_from.result c.round_from.ensures.unsent (λ nothing ds h. nothing ds (c.receive.ensures.given ds h))

pub returns-in_err-tick-in-Ok-None-clause-unsent : goal.returns-in_err-tick-in-Ok-None-clause-unsent
returns-in_err-tick-in-Ok-None-clause-unsent g c = any_err c.from_residual.result (λ ds h. c.in_err-tick-in-Ok-None.ensures.unsent ds (c.receive.ensures.given ds h))

pub returns-in_ok-tick-in-Ok-None-clause-acknowledged : goal.returns-in_ok-tick-in-Ok-None-clause-acknowledged
returns-in_ok-tick-in-Ok-None-clause-acknowledged g c =
    first_after {R = g.row.R.Denot} {A = g.row.A.Denot} {D = g.row.D.Denot} g.A.Application.has_applied g.A.Application.meaning g.R.Records.failed g.D.PartialEq.eq g.W.Wire.was_given g.W.Wire.has_brought g.R.Records.is_kept g.R.FlushRecords.leaves c.tick.new.self.server c.args.wire.now c.receive.new.self c.tick.new.wire c.receive.ensures.given c.in_ok-tick-in-Ok-None.ensures.acknowledged

pub returns-in-Err-clause-acknowledged : goal.returns-in-Err-clause-acknowledged
returns-in-Err-clause-acknowledged g c = inr c.receive.ensures.given

pub returns-in-Ok-Some-clause-said : goal.returns-in-Ok-Some-clause-said
returns-in-Ok-Some-clause-said g c = said_first {D = g.row.D.Denot} g.W.Wire.has_brought g.W.Wire.has_waited c.args.wire.now c.receive.new.self c.round_from.new.wire c.round_from.result (said_by {D = g.row.D.Denot} g.W.Wire.has_brought g.W.Wire.has_waited c.args.wire.now c.receive.new.self c.receive.result _ c.receive.new.buffer (c.in-Ok-Some.is ∙ ap Ok c.in-Ok-Some.field-0-is) c.receive.ensures.brought c.receive.ensures.waited) c.round_from.ensures.said

pub returns-in_ok-tick-in-Ok-None-clause-said : goal.returns-in_ok-tick-in-Ok-None-clause-said
returns-in_ok-tick-in-Ok-None-clause-said g c = (0, omega arith, said_further {D = g.row.D.Denot} g.W.Wire.has_brought g.W.Wire.has_waited c.args.wire.now c.receive.new.self c.tick.new.wire 1 0 (said_by {D = g.row.D.Denot} g.W.Wire.has_brought g.W.Wire.has_waited c.args.wire.now c.receive.new.self c.receive.result _ c.receive.new.buffer (c.in-Ok-None.is ∙ ap Ok c.in-Ok-None.field-0-is) c.receive.ensures.brought c.receive.ensures.waited) c.tick.ensures.brought c.tick.ensures.waited)

pub returns-in-Err-clause-said : goal.returns-in-Err-clause-said
returns-in-Err-clause-said g c = (1, omega arith, said_by {D = g.row.D.Denot} g.W.Wire.has_brought g.W.Wire.has_waited c.args.wire.now c.receive.new.self c.receive.result _ c.receive.new.buffer c.in-Err.is c.receive.ensures.brought c.receive.ensures.waited)

pub returns-in-Ok-Some-clause-ended : goal.returns-in-Ok-Some-clause-ended
returns-in-Ok-Some-clause-ended g c = on_ok c.round_from.result c.round_from.ensures.ended (λ ended. inl (ended_after {R = g.row.R.Denot} {A = g.row.A.Denot} {D = g.row.D.Denot} g.R.Records.is_kept g.R.FlushRecords.leaves g.W.Wire.was_given c.round_from.new.self c.args.wire.now c.receive.new.self c.round_from.new.wire c.receive.ensures.given ended))

pub returns-in_ok-tick-in-Ok-None-clause-ended : goal.returns-in_ok-tick-in-Ok-None-clause-ended
returns-in_ok-tick-in-Ok-None-clause-ended g c = inl (ended_after {R = g.row.R.Denot} {A = g.row.A.Denot} {D = g.row.D.Denot} g.R.Records.is_kept g.R.FlushRecords.leaves g.W.Wire.was_given c.tick.new.self c.args.wire.now c.receive.new.self c.tick.new.wire c.receive.ensures.given c.in_ok-tick-in-Ok-None.ensures.ended)

pub returns-in-Err-clause-ended : goal.returns-in-Err-clause-ended
returns-in-Err-clause-ended g c = inr (refl, c.receive.ensures.given)
