use Rattle.std.proofs.Common.{◌≡◌, ◌-◌, [], ◌∷◌, Ok, ap, refl, ◌∙◌, take, arith}
use Rattle.server_steps.proofs.Beside.{given_beside, halted_beside, on_beside}
use Rattle.server_steps.proofs.Going.{brought_none, brought_one, goes_hearing, halts_after, hears_first, passed_err, passed_none, passed_taking}
use Rattle.server_steps.proofs.Said.{said_waiting}
use Rattle.server_steps.specs.Going.{Server, has_brought_beside, shown, was_given_or_held}
use Rattle.server_steps.specs.Moves.{AreTurns, Took}
use Rattle.wires.specs.Wires.{Carried, carried_in}
use Rattle.server_steps.proofs.state.State.take_next.Goals as goal

pub returns-in_err-take-in-Ok-Some-clause-took : goal.returns-in_err-take-in-Ok-Some-clause-took
returns-in_err-take-in-Ok-Some-clause-took g c =
    let a = c.in-Ok-Some.arrival in
    let buffer = c.receive_waiting.new.buffer in
    let cut : take (a.length - 0) buffer ≡ take a.length buffer = grind arith in
    let x : Server g.row.R.Denot g.row.A.Denot g.row.D.Denot = shown c.args.self.now in
    let z : Server g.row.R.Denot g.row.A.Denot g.row.D.Denot = shown c.take.new.self in
    passed_err {R = g.row.R.Denot} {A = g.row.A.Denot} {D = g.row.D.Denot} g.A.Application.has_applied g.A.Application.meaning g.R.Records.failed g.D.PartialEq.eq (was_given_or_held g.W.Wire.was_given) (has_brought_beside g.W.Wire.has_brought) g.R.Records.stands g.R.Records.is_kept g.R.Records.base g.R.FlushRecords.leaves AreTurns c.from_residual.result _ x z (x.held, c.args.wire.now) (z.held, c.receive_waiting.new.self) c.from_residual.ensures.0
    (halts_after {R = g.row.R.Denot} {A = g.row.A.Denot} {D = g.row.D.Denot} g.A.Application.has_applied g.A.Application.meaning g.R.Records.failed g.D.PartialEq.eq (was_given_or_held g.W.Wire.was_given) (has_brought_beside g.W.Wire.has_brought) g.R.Records.stands g.R.Records.is_kept g.R.Records.base g.R.FlushRecords.leaves x x z (x.held, c.args.wire.now) (x.held, c.receive_waiting.new.self) (z.held, c.receive_waiting.new.self) [] _ [] (λ has. absurd has)
    (goes_hearing {R = g.row.R.Denot} {A = g.row.A.Denot} {D = g.row.D.Denot} g.A.Application.has_applied g.A.Application.meaning g.R.Records.failed g.D.PartialEq.eq (was_given_or_held g.W.Wire.was_given) (has_brought_beside g.W.Wire.has_brought) x (x.held, c.args.wire.now) (x.held, c.receive_waiting.new.self) _ (given_beside {R = g.row.R.Denot} {A = g.row.A.Denot} {D = g.row.D.Denot} g.A.Application.has_applied g.A.Application.meaning g.R.Records.failed g.D.PartialEq.eq g.W.Wire.was_given x.held c.args.wire.now c.receive_waiting.new.self c.receive_waiting.ensures.given)
    (brought_one {R = g.row.R.Denot} {A = g.row.A.Denot} {D = g.row.D.Denot} g.A.Application.has_applied g.A.Application.meaning g.R.Records.failed g.D.PartialEq.eq g.W.Wire.was_given g.W.Wire.has_brought c.args.wire.now c.receive_waiting.new.self c.receive_waiting.result a buffer (take (a.length - 0) buffer) (c.in-Ok-Some.is ∙ ap Ok c.in-Ok-Some.field-0-is) cut c.receive_waiting.ensures.brought))
    (halted_beside {R = g.row.R.Denot} {A = g.row.A.Denot} {D = g.row.D.Denot} g.A.Application.has_applied g.A.Application.meaning g.R.Records.failed g.D.PartialEq.eq g.W.Wire.was_given g.W.Wire.has_brought g.R.Records.stands g.R.Records.is_kept g.R.Records.base g.R.FlushRecords.leaves x z x.held z.held c.receive_waiting.new.self c.in_err-take-in-Ok-Some.ensures))

pub returns-in_ok-take-in-Ok-Some-clause-took : goal.returns-in_ok-take-in-Ok-Some-clause-took
returns-in_ok-take-in-Ok-Some-clause-took g c =
    let a = c.in-Ok-Some.arrival in
    let buffer = c.receive_waiting.new.buffer in
    let d : Carried g.row.D.Denot = record { end = a.end; peer = a.from; bytes = take a.length buffer } in
    let x : Server g.row.R.Denot g.row.A.Denot g.row.D.Denot = shown c.args.self.now in
    let y : Server g.row.R.Denot g.row.A.Denot g.row.D.Denot = shown c.take.new.self in
    passed_taking {R = g.row.R.Denot} {A = g.row.A.Denot} {D = g.row.D.Denot} g.A.Application.has_applied g.A.Application.meaning g.R.Records.failed g.D.PartialEq.eq (was_given_or_held g.W.Wire.was_given) (has_brought_beside g.W.Wire.has_brought) g.R.Records.stands g.R.Records.is_kept g.R.Records.base g.R.FlushRecords.leaves d x y (x.held, c.args.wire.now) (y.held, c.receive_waiting.new.self)
    (hears_first {R = g.row.R.Denot} {A = g.row.A.Denot} {D = g.row.D.Denot} g.A.Application.has_applied g.A.Application.meaning g.R.Records.failed g.D.PartialEq.eq (was_given_or_held g.W.Wire.was_given) (has_brought_beside g.W.Wire.has_brought) (Took d ∷ []) (d ∷ []) (d ∷ []) x y (x.held, c.args.wire.now) (x.held, c.receive_waiting.new.self) (y.held, c.receive_waiting.new.self) (given_beside {R = g.row.R.Denot} {A = g.row.A.Denot} {D = g.row.D.Denot} g.A.Application.has_applied g.A.Application.meaning g.R.Records.failed g.D.PartialEq.eq g.W.Wire.was_given x.held c.args.wire.now c.receive_waiting.new.self c.receive_waiting.ensures.given)
    (brought_one {R = g.row.R.Denot} {A = g.row.A.Denot} {D = g.row.D.Denot} g.A.Application.has_applied g.A.Application.meaning g.R.Records.failed g.D.PartialEq.eq g.W.Wire.was_given g.W.Wire.has_brought c.args.wire.now c.receive_waiting.new.self c.receive_waiting.result a buffer (take a.length buffer) (c.in-Ok-Some.is ∙ ap Ok c.in-Ok-Some.field-0-is) refl c.receive_waiting.ensures.brought)
    (on_beside {R = g.row.R.Denot} {A = g.row.A.Denot} {D = g.row.D.Denot} g.A.Application.has_applied g.A.Application.meaning g.R.Records.failed g.D.PartialEq.eq g.W.Wire.was_given g.W.Wire.has_brought (Took d ∷ []) (d ∷ []) x y x.held y.held c.receive_waiting.new.self c.in_ok-take-in-Ok-Some.ensures))

pub returns-in-Ok-None-clause-took : goal.returns-in-Ok-None-clause-took
returns-in-Ok-None-clause-took g c =
    let x : Server g.row.R.Denot g.row.A.Denot g.row.D.Denot = shown c.args.self.now in
    passed_none {R = g.row.R.Denot} {A = g.row.A.Denot} {D = g.row.D.Denot} g.A.Application.has_applied g.A.Application.meaning g.R.Records.failed g.D.PartialEq.eq (was_given_or_held g.W.Wire.was_given) (has_brought_beside g.W.Wire.has_brought) g.R.Records.stands g.R.Records.is_kept g.R.Records.base g.R.FlushRecords.leaves x (x.held, c.args.wire.now) (x.held, c.receive_waiting.new.self)
    (goes_hearing {R = g.row.R.Denot} {A = g.row.A.Denot} {D = g.row.D.Denot} g.A.Application.has_applied g.A.Application.meaning g.R.Records.failed g.D.PartialEq.eq (was_given_or_held g.W.Wire.was_given) (has_brought_beside g.W.Wire.has_brought) x (x.held, c.args.wire.now) (x.held, c.receive_waiting.new.self) [] (given_beside {R = g.row.R.Denot} {A = g.row.A.Denot} {D = g.row.D.Denot} g.A.Application.has_applied g.A.Application.meaning g.R.Records.failed g.D.PartialEq.eq g.W.Wire.was_given x.held c.args.wire.now c.receive_waiting.new.self c.receive_waiting.ensures.given)
    (brought_none {R = g.row.R.Denot} {A = g.row.A.Denot} {D = g.row.D.Denot} g.A.Application.has_applied g.A.Application.meaning g.R.Records.failed g.D.PartialEq.eq g.W.Wire.was_given g.W.Wire.has_brought c.args.wire.now c.receive_waiting.new.self c.receive_waiting.result c.receive_waiting.new.buffer (ap (λ q. carried_in q c.receive_waiting.new.buffer) (c.in-Ok-None.is ∙ ap Ok c.in-Ok-None.field-0-is)) c.receive_waiting.ensures.brought))

pub returns-in-Err-clause-took : goal.returns-in-Err-clause-took
returns-in-Err-clause-took g c =
    let x : Server g.row.R.Denot g.row.A.Denot g.row.D.Denot = shown c.args.self.now in
    passed_none {R = g.row.R.Denot} {A = g.row.A.Denot} {D = g.row.D.Denot} g.A.Application.has_applied g.A.Application.meaning g.R.Records.failed g.D.PartialEq.eq (was_given_or_held g.W.Wire.was_given) (has_brought_beside g.W.Wire.has_brought) g.R.Records.stands g.R.Records.is_kept g.R.Records.base g.R.FlushRecords.leaves x (x.held, c.args.wire.now) (x.held, c.receive_waiting.new.self)
    (goes_hearing {R = g.row.R.Denot} {A = g.row.A.Denot} {D = g.row.D.Denot} g.A.Application.has_applied g.A.Application.meaning g.R.Records.failed g.D.PartialEq.eq (was_given_or_held g.W.Wire.was_given) (has_brought_beside g.W.Wire.has_brought) x (x.held, c.args.wire.now) (x.held, c.receive_waiting.new.self) [] (given_beside {R = g.row.R.Denot} {A = g.row.A.Denot} {D = g.row.D.Denot} g.A.Application.has_applied g.A.Application.meaning g.R.Records.failed g.D.PartialEq.eq g.W.Wire.was_given x.held c.args.wire.now c.receive_waiting.new.self c.receive_waiting.ensures.given)
    (brought_none {R = g.row.R.Denot} {A = g.row.A.Denot} {D = g.row.D.Denot} g.A.Application.has_applied g.A.Application.meaning g.R.Records.failed g.D.PartialEq.eq g.W.Wire.was_given g.W.Wire.has_brought c.args.wire.now c.receive_waiting.new.self c.receive_waiting.result c.receive_waiting.new.buffer (ap (λ q. carried_in q c.receive_waiting.new.buffer) c.in-Err.is) c.receive_waiting.ensures.brought))

pub returns-in_ok-take-in-Ok-Some-clause-said : goal.returns-in_ok-take-in-Ok-Some-clause-said
returns-in_ok-take-in-Ok-Some-clause-said g c = said_waiting {D = g.row.D.Denot} g.W.Wire.has_brought g.W.Wire.has_waited c.args.wire.now c.receive_waiting.new.self c.receive_waiting.result c.receive_waiting.new.buffer _ (ap (λ q. carried_in q c.receive_waiting.new.buffer) (c.in-Ok-Some.is ∙ ap Ok c.in-Ok-Some.field-0-is)) c.receive_waiting.ensures.brought c.receive_waiting.ensures.waited

pub returns-in-Ok-None-clause-said : goal.returns-in-Ok-None-clause-said
returns-in-Ok-None-clause-said g c = said_waiting {D = g.row.D.Denot} g.W.Wire.has_brought g.W.Wire.has_waited c.args.wire.now c.receive_waiting.new.self c.receive_waiting.result c.receive_waiting.new.buffer _ (ap (λ q. carried_in q c.receive_waiting.new.buffer) (c.in-Ok-None.is ∙ ap Ok c.in-Ok-None.field-0-is)) c.receive_waiting.ensures.brought c.receive_waiting.ensures.waited

pub returns-in-Err-clause-said : goal.returns-in-Err-clause-said
returns-in-Err-clause-said g c = said_waiting {D = g.row.D.Denot} g.W.Wire.has_brought g.W.Wire.has_waited c.args.wire.now c.receive_waiting.new.self c.receive_waiting.result c.receive_waiting.new.buffer _ (ap (λ q. carried_in q c.receive_waiting.new.buffer) c.in-Err.is) c.receive_waiting.ensures.brought c.receive_waiting.ensures.waited
