use Rattle.std.proofs.Common.{[], ◌∷◌, refl, take}
use Rattle.server_steps.proofs.Beside.{given_beside, halted_beside, on_beside}
use Rattle.server_steps.proofs.Going.{goes_hearing, halts_after, hears_first, passed_both, passed_err, passed_stops, passed_taking}
use Rattle.server_steps.specs.Going.{Server, has_brought_beside, shown, was_given_or_held}
use Rattle.server_steps.specs.Moves.{AreTurns, Took}
use Rattle.wires.specs.Wires.{Carried}
use Rattle.server_steps.proofs.state.State.take_all.Goals as goal

pub returns-in_err-take-clause-took : goal.returns-in_err-take-clause-took
returns-in_err-take-clause-took g c v gives brings =
    let d : Carried g.row.D.Denot = record { end = c.args.arrival.end; peer = c.args.arrival.from; bytes = take c.args.arrival.length c.args.buffer.now } in
    let x : Server g.row.R.Denot g.row.A.Denot g.row.D.Denot = shown c.args.self.now in
    let z : Server g.row.R.Denot g.row.A.Denot g.row.D.Denot = shown c.take.new.self in
    passed_err {R = g.row.R.Denot} {A = g.row.A.Denot} {D = g.row.D.Denot} g.A.Application.has_applied g.A.Application.meaning g.R.Records.failed g.D.PartialEq.eq (was_given_or_held g.W.Wire.was_given) (has_brought_beside g.W.Wire.has_brought) g.R.Records.stands g.R.Records.is_kept g.R.Records.base g.R.FlushRecords.leaves AreTurns c.from_residual.result _ x z (x.held, v) (z.held, c.args.wire.now) c.from_residual.ensures.0
    (halts_after {R = g.row.R.Denot} {A = g.row.A.Denot} {D = g.row.D.Denot} g.A.Application.has_applied g.A.Application.meaning g.R.Records.failed g.D.PartialEq.eq (was_given_or_held g.W.Wire.was_given) (has_brought_beside g.W.Wire.has_brought) g.R.Records.stands g.R.Records.is_kept g.R.Records.base g.R.FlushRecords.leaves x x z (x.held, v) (x.held, c.args.wire.now) (z.held, c.args.wire.now) [] (d ∷ []) [] (λ has. absurd has)
    (goes_hearing {R = g.row.R.Denot} {A = g.row.A.Denot} {D = g.row.D.Denot} g.A.Application.has_applied g.A.Application.meaning g.R.Records.failed g.D.PartialEq.eq (was_given_or_held g.W.Wire.was_given) (has_brought_beside g.W.Wire.has_brought) x (x.held, v) (x.held, c.args.wire.now) (d ∷ []) (given_beside {R = g.row.R.Denot} {A = g.row.A.Denot} {D = g.row.D.Denot} g.A.Application.has_applied g.A.Application.meaning g.R.Records.failed g.D.PartialEq.eq g.W.Wire.was_given x.held v c.args.wire.now gives) brings)
    (halted_beside {R = g.row.R.Denot} {A = g.row.A.Denot} {D = g.row.D.Denot} g.A.Application.has_applied g.A.Application.meaning g.R.Records.failed g.D.PartialEq.eq g.W.Wire.was_given g.W.Wire.has_brought g.R.Records.stands g.R.Records.is_kept g.R.Records.base g.R.FlushRecords.leaves x z x.held z.held c.args.wire.now c.in_err-take.ensures))

pub returns-in_err-more-clause-took : goal.returns-in_err-more-clause-took
returns-in_err-more-clause-took g c v gives brings =
    let d : Carried g.row.D.Denot = record { end = c.args.arrival.end; peer = c.args.arrival.from; bytes = take c.args.arrival.length c.args.buffer.now } in
    let x : Server g.row.R.Denot g.row.A.Denot g.row.D.Denot = shown c.args.self.now in
    let y : Server g.row.R.Denot g.row.A.Denot g.row.D.Denot = shown c.take.new.self in
    let z : Server g.row.R.Denot g.row.A.Denot g.row.D.Denot = shown c.take_waiting.new.self in
    let one = passed_taking {R = g.row.R.Denot} {A = g.row.A.Denot} {D = g.row.D.Denot} g.A.Application.has_applied g.A.Application.meaning g.R.Records.failed g.D.PartialEq.eq (was_given_or_held g.W.Wire.was_given) (has_brought_beside g.W.Wire.has_brought) g.R.Records.stands g.R.Records.is_kept g.R.Records.base g.R.FlushRecords.leaves d x y (x.held, v) (y.held, c.args.wire.now)
    (hears_first {R = g.row.R.Denot} {A = g.row.A.Denot} {D = g.row.D.Denot} g.A.Application.has_applied g.A.Application.meaning g.R.Records.failed g.D.PartialEq.eq (was_given_or_held g.W.Wire.was_given) (has_brought_beside g.W.Wire.has_brought) (Took d ∷ []) (d ∷ []) (d ∷ []) x y (x.held, v) (x.held, c.args.wire.now) (y.held, c.args.wire.now) (given_beside {R = g.row.R.Denot} {A = g.row.A.Denot} {D = g.row.D.Denot} g.A.Application.has_applied g.A.Application.meaning g.R.Records.failed g.D.PartialEq.eq g.W.Wire.was_given x.held v c.args.wire.now gives) brings
    (on_beside {R = g.row.R.Denot} {A = g.row.A.Denot} {D = g.row.D.Denot} g.A.Application.has_applied g.A.Application.meaning g.R.Records.failed g.D.PartialEq.eq g.W.Wire.was_given g.W.Wire.has_brought (Took d ∷ []) (d ∷ []) x y x.held y.held c.args.wire.now c.in_ok-take.ensures)) in
    passed_stops {R = g.row.R.Denot} {A = g.row.A.Denot} {D = g.row.D.Denot} g.A.Application.has_applied g.A.Application.meaning g.R.Records.failed g.D.PartialEq.eq (was_given_or_held g.W.Wire.was_given) (has_brought_beside g.W.Wire.has_brought) g.R.Records.stands g.R.Records.is_kept g.R.Records.base g.R.FlushRecords.leaves AreTurns c.from_residual-in_err-more.result 1 _ x y z (x.held, v) (y.held, c.args.wire.now) (z.held, c.take_waiting.new.wire) c.from_residual-in_err-more.ensures.0 one c.in_err-more.ensures.took.1

pub returns-clause-took : goal.returns-clause-took
returns-clause-took g c v gives brings =
    let d : Carried g.row.D.Denot = record { end = c.args.arrival.end; peer = c.args.arrival.from; bytes = take c.args.arrival.length c.args.buffer.now } in
    let x : Server g.row.R.Denot g.row.A.Denot g.row.D.Denot = shown c.args.self.now in
    let y : Server g.row.R.Denot g.row.A.Denot g.row.D.Denot = shown c.take.new.self in
    let z : Server g.row.R.Denot g.row.A.Denot g.row.D.Denot = shown c.take_waiting.new.self in
    let one = passed_taking {R = g.row.R.Denot} {A = g.row.A.Denot} {D = g.row.D.Denot} g.A.Application.has_applied g.A.Application.meaning g.R.Records.failed g.D.PartialEq.eq (was_given_or_held g.W.Wire.was_given) (has_brought_beside g.W.Wire.has_brought) g.R.Records.stands g.R.Records.is_kept g.R.Records.base g.R.FlushRecords.leaves d x y (x.held, v) (y.held, c.args.wire.now)
    (hears_first {R = g.row.R.Denot} {A = g.row.A.Denot} {D = g.row.D.Denot} g.A.Application.has_applied g.A.Application.meaning g.R.Records.failed g.D.PartialEq.eq (was_given_or_held g.W.Wire.was_given) (has_brought_beside g.W.Wire.has_brought) (Took d ∷ []) (d ∷ []) (d ∷ []) x y (x.held, v) (x.held, c.args.wire.now) (y.held, c.args.wire.now) (given_beside {R = g.row.R.Denot} {A = g.row.A.Denot} {D = g.row.D.Denot} g.A.Application.has_applied g.A.Application.meaning g.R.Records.failed g.D.PartialEq.eq g.W.Wire.was_given x.held v c.args.wire.now gives) brings
    (on_beside {R = g.row.R.Denot} {A = g.row.A.Denot} {D = g.row.D.Denot} g.A.Application.has_applied g.A.Application.meaning g.R.Records.failed g.D.PartialEq.eq g.W.Wire.was_given g.W.Wire.has_brought (Took d ∷ []) (d ∷ []) x y x.held y.held c.args.wire.now c.in_ok-take.ensures)) in
    passed_both {R = g.row.R.Denot} {A = g.row.A.Denot} {D = g.row.D.Denot} g.A.Application.has_applied g.A.Application.meaning g.R.Records.failed g.D.PartialEq.eq (was_given_or_held g.W.Wire.was_given) (has_brought_beside g.W.Wire.has_brought) g.R.Records.stands g.R.Records.is_kept g.R.Records.base g.R.FlushRecords.leaves 1 c.in_ok-more.more x y z (x.held, v) (y.held, c.args.wire.now) (z.held, c.take_waiting.new.wire) one c.in_ok-more.ensures.took

pub returns-clause-said : goal.returns-clause-said
returns-clause-said g c = (c.in_ok-more.more, refl, c.in_ok-more.ensures.said)
