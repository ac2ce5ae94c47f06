use Rattle.std.proofs.Common.{[]}
use Rattle.server_steps.proofs.Beside.{given_beside, halted_beside, on_beside}
use Rattle.serving.proofs.Rounding.{ended_after}
use Rattle.serving.proofs.Closing.{first_after, passed_closing, passed_ending}
use Rattle.server_steps.proofs.Giving.{given_none}
use Rattle.server_steps.proofs.Going.{goes_hearing, halts_after, halts_at_once, on_hearing, passed_err, passed_stops}
use Rattle.server_steps.proofs.Said.{said_further}
use Rattle.server_steps.proofs.Outcomes.{any_err}
use Rattle.server_steps.specs.Going.{Server, has_brought_beside, shown, was_given_or_held}
use Rattle.server_steps.specs.Moves.{AreTurns}
use Rattle.serving.proofs.server.Server.round_from.Goals as goal

pub returns-in_err-taken-clause-took : goal.returns-in_err-taken-clause-took
returns-in_err-taken-clause-took g c v gives brings =
    let stopped = c.in_err-taken.ensures.took v gives brings in
    rw (← c.self.view_is) (passed_err {R = g.row.R.Denot} {A = g.row.A.Denot} {D = g.row.D.Denot} g.A.Application.has_applied g.A.Application.meaning g.R.Records.failed g.D.PartialEq.eq (was_given_or_held g.W.Wire.was_given) (has_brought_beside g.W.Wire.has_brought) g.R.Records.stands g.R.Records.is_kept g.R.Records.base g.R.FlushRecords.leaves AreTurns c.from_residual.result stopped.0 _ _ _ _ c.from_residual.ensures.0 stopped.1)

pub returns-in_err-tick_if_due_and_keep-clause-took : goal.returns-in_err-tick_if_due_and_keep-clause-took
returns-in_err-tick_if_due_and_keep-clause-took g c v gives brings =
    let x : Server g.row.R.Denot g.row.A.Denot g.row.D.Denot = shown c.self.inside.state in
    let y : Server g.row.R.Denot g.row.A.Denot g.row.D.Denot = shown c.take_all.new.self in
    let z : Server g.row.R.Denot g.row.A.Denot g.row.D.Denot = shown c.tick_if_due_and_keep.new.self in
    let r = c.from_residual-in_err-tick_if_due_and_keep in
    rw (← c.self.view_is) (passed_stops {R = g.row.R.Denot} {A = g.row.A.Denot} {D = g.row.D.Denot} g.A.Application.has_applied g.A.Application.meaning g.R.Records.failed g.D.PartialEq.eq (was_given_or_held g.W.Wire.was_given) (has_brought_beside g.W.Wire.has_brought) g.R.Records.stands g.R.Records.is_kept g.R.Records.base g.R.FlushRecords.leaves AreTurns r.result _ _ x y z (x.held, v) (y.held, c.take_all.new.wire) (z.held, c.has_while_passed-has_passed.new.self) r.ensures.0 (c.in_ok-taken.ensures.took v gives brings)
    (halts_after {R = g.row.R.Denot} {A = g.row.A.Denot} {D = g.row.D.Denot} g.A.Application.has_applied g.A.Application.meaning g.R.Records.failed g.D.PartialEq.eq (was_given_or_held g.W.Wire.was_given) (has_brought_beside g.W.Wire.has_brought) g.R.Records.stands g.R.Records.is_kept g.R.Records.base g.R.FlushRecords.leaves y y z (y.held, c.take_all.new.wire) (y.held, c.has_while_passed-has_passed.new.self) (z.held, c.has_while_passed-has_passed.new.self) [] [] [] (λ has. absurd has) (goes_hearing {R = g.row.R.Denot} {A = g.row.A.Denot} {D = g.row.D.Denot} g.A.Application.has_applied g.A.Application.meaning g.R.Records.failed g.D.PartialEq.eq (was_given_or_held g.W.Wire.was_given) (has_brought_beside g.W.Wire.has_brought) y (y.held, c.take_all.new.wire) (y.held, c.has_while_passed-has_passed.new.self) [] (given_beside {R = g.row.R.Denot} {A = g.row.A.Denot} {D = g.row.D.Denot} g.A.Application.has_applied g.A.Application.meaning g.R.Records.failed g.D.PartialEq.eq g.W.Wire.was_given y.held c.take_all.new.wire c.has_while_passed-has_passed.new.self c.has_while_passed-has_passed.ensures.given) (λ ds b. given_none g.W.Wire.has_brought c.has_while_passed-has_passed.new.self ds (c.has_while_passed-has_passed.ensures.brought ds b)))
    (halted_beside {R = g.row.R.Denot} {A = g.row.A.Denot} {D = g.row.D.Denot} g.A.Application.has_applied g.A.Application.meaning g.R.Records.failed g.D.PartialEq.eq g.W.Wire.was_given g.W.Wire.has_brought g.R.Records.stands g.R.Records.is_kept g.R.Records.base g.R.FlushRecords.leaves y z y.held z.held c.has_while_passed-has_passed.new.self c.in_err-tick_if_due_and_keep.ensures.went)))

pub returns-in_err-close-clause-took : goal.returns-in_err-close-clause-took
returns-in_err-close-clause-took g c v gives brings =
    let x : Server g.row.R.Denot g.row.A.Denot g.row.D.Denot = shown c.self.inside.state in
    let y : Server g.row.R.Denot g.row.A.Denot g.row.D.Denot = shown c.take_all.new.self in
    let z : Server g.row.R.Denot g.row.A.Denot g.row.D.Denot = shown c.tick_if_due_and_keep.new.self in
    let u : Server g.row.R.Denot g.row.A.Denot g.row.D.Denot = c.close.new.self.server in
    let r = c.from_residual-in_err-close in
    let ended = passed_ending {R = g.row.R.Denot} {A = g.row.A.Denot} {D = g.row.D.Denot} g.A.Application.has_applied g.A.Application.meaning g.R.Records.failed g.D.PartialEq.eq (was_given_or_held g.W.Wire.was_given) (has_brought_beside g.W.Wire.has_brought) x y z (x.held, v) (y.held, c.take_all.new.wire) (z.held, c.has_while_passed-has_passed.new.self) g.R.Records.stands g.R.Records.is_kept g.R.Records.base g.R.FlushRecords.leaves c.in_ok-taken.ensures.least (c.in_ok-taken.ensures.took v gives brings)
    (on_hearing {R = g.row.R.Denot} {A = g.row.A.Denot} {D = g.row.D.Denot} g.A.Application.has_applied g.A.Application.meaning g.R.Records.failed g.D.PartialEq.eq (was_given_or_held g.W.Wire.was_given) (has_brought_beside g.W.Wire.has_brought) [] [] [] y z (y.held, c.take_all.new.wire) (y.held, c.has_while_passed-has_passed.new.self) (z.held, c.has_while_passed-has_passed.new.self) (given_beside {R = g.row.R.Denot} {A = g.row.A.Denot} {D = g.row.D.Denot} g.A.Application.has_applied g.A.Application.meaning g.R.Records.failed g.D.PartialEq.eq g.W.Wire.was_given y.held c.take_all.new.wire c.has_while_passed-has_passed.new.self c.has_while_passed-has_passed.ensures.given) (λ ds b. given_none g.W.Wire.has_brought c.has_while_passed-has_passed.new.self ds (c.has_while_passed-has_passed.ensures.brought ds b))
    (on_beside {R = g.row.R.Denot} {A = g.row.A.Denot} {D = g.row.D.Denot} g.A.Application.has_applied g.A.Application.meaning g.R.Records.failed g.D.PartialEq.eq g.W.Wire.was_given g.W.Wire.has_brought [] [] y z y.held z.held c.has_while_passed-has_passed.new.self c.in_ok-tick_if_due_and_keep.ensures.went)) in
    rw (← c.self.view_is) (passed_stops {R = g.row.R.Denot} {A = g.row.A.Denot} {D = g.row.D.Denot} g.A.Application.has_applied g.A.Application.meaning g.R.Records.failed g.D.PartialEq.eq (was_given_or_held g.W.Wire.was_given) (has_brought_beside g.W.Wire.has_brought) g.R.Records.stands g.R.Records.is_kept g.R.Records.base g.R.FlushRecords.leaves AreTurns r.result _ _ x z u (x.held, v) (z.held, c.has_while_passed-has_passed.new.self) (u.held, c.close.new.wire) r.ensures.0 ended
    (halts_at_once {R = g.row.R.Denot} {A = g.row.A.Denot} {D = g.row.D.Denot} g.A.Application.has_applied g.A.Application.meaning g.R.Records.failed g.D.PartialEq.eq (was_given_or_held g.W.Wire.was_given) (has_brought_beside g.W.Wire.has_brought) g.R.Records.stands g.R.Records.is_kept g.R.Records.base g.R.FlushRecords.leaves z u (z.held, c.has_while_passed-has_passed.new.self) (u.held, c.close.new.wire) c.in_err-close.ensures.halted c.close.ensures.given c.close.ensures.brought))

pub returns-clause-took : goal.returns-clause-took
returns-clause-took g c v gives brings =
    let x : Server g.row.R.Denot g.row.A.Denot g.row.D.Denot = shown c.self.inside.state in
    let y : Server g.row.R.Denot g.row.A.Denot g.row.D.Denot = shown c.take_all.new.self in
    let z : Server g.row.R.Denot g.row.A.Denot g.row.D.Denot = shown c.tick_if_due_and_keep.new.self in
    let u : Server g.row.R.Denot g.row.A.Denot g.row.D.Denot = c.close.new.self.server in
    let ended = passed_ending {R = g.row.R.Denot} {A = g.row.A.Denot} {D = g.row.D.Denot} g.A.Application.has_applied g.A.Application.meaning g.R.Records.failed g.D.PartialEq.eq (was_given_or_held g.W.Wire.was_given) (has_brought_beside g.W.Wire.has_brought) x y z (x.held, v) (y.held, c.take_all.new.wire) (z.held, c.has_while_passed-has_passed.new.self) g.R.Records.stands g.R.Records.is_kept g.R.Records.base g.R.FlushRecords.leaves c.in_ok-taken.ensures.least (c.in_ok-taken.ensures.took v gives brings)
    (on_hearing {R = g.row.R.Denot} {A = g.row.A.Denot} {D = g.row.D.Denot} g.A.Application.has_applied g.A.Application.meaning g.R.Records.failed g.D.PartialEq.eq (was_given_or_held g.W.Wire.was_given) (has_brought_beside g.W.Wire.has_brought) [] [] [] y z (y.held, c.take_all.new.wire) (y.held, c.has_while_passed-has_passed.new.self) (z.held, c.has_while_passed-has_passed.new.self) (given_beside {R = g.row.R.Denot} {A = g.row.A.Denot} {D = g.row.D.Denot} g.A.Application.has_applied g.A.Application.meaning g.R.Records.failed g.D.PartialEq.eq g.W.Wire.was_given y.held c.take_all.new.wire c.has_while_passed-has_passed.new.self c.has_while_passed-has_passed.ensures.given) (λ ds b. given_none g.W.Wire.has_brought c.has_while_passed-has_passed.new.self ds (c.has_while_passed-has_passed.ensures.brought ds b))
    (on_beside {R = g.row.R.Denot} {A = g.row.A.Denot} {D = g.row.D.Denot} g.A.Application.has_applied g.A.Application.meaning g.R.Records.failed g.D.PartialEq.eq g.W.Wire.was_given g.W.Wire.has_brought [] [] y z y.held z.held c.has_while_passed-has_passed.new.self c.in_ok-tick_if_due_and_keep.ensures.went)) in
    rw (← c.self.view_is) (passed_closing {R = g.row.R.Denot} {A = g.row.A.Denot} {D = g.row.D.Denot} g.A.Application.has_applied g.A.Application.meaning g.R.Records.failed g.D.PartialEq.eq (was_given_or_held g.W.Wire.was_given) (has_brought_beside g.W.Wire.has_brought) x z u (x.held, v) (z.held, c.has_while_passed-has_passed.new.self) (u.held, c.close.new.wire) g.R.Records.stands g.R.Records.is_kept g.R.Records.base g.R.FlushRecords.leaves c.in_ok-taken.ensures.least ended c.in_ok-close.ensures.stays c.close.ensures.place c.close.ensures.word c.close.ensures.waiting c.close.ensures.given c.close.ensures.brought)

pub returns-in_err-tick_if_due_and_keep-clause-unsent : goal.returns-in_err-tick_if_due_and_keep-clause-unsent
returns-in_err-tick_if_due_and_keep-clause-unsent g c = any_err c.from_residual-in_err-tick_if_due_and_keep.result (λ ds h. c.has_while_passed-has_passed.ensures.given ds (c.take_all.ensures.unsent ds h))

pub returns-in_err-close-clause-unsent : goal.returns-in_err-close-clause-unsent
returns-in_err-close-clause-unsent g c = any_err c.from_residual-in_err-close.result (λ ds h. c.in_err-close.ensures.unsent ds (c.has_while_passed-has_passed.ensures.given ds (c.take_all.ensures.unsent ds h)))

pub returns-clause-acknowledged : goal.returns-clause-acknowledged
returns-clause-acknowledged g c = first_after {R = g.row.R.Denot} {A = g.row.A.Denot} {D = g.row.D.Denot} g.A.Application.has_applied g.A.Application.meaning g.R.Records.failed g.D.PartialEq.eq g.W.Wire.was_given g.W.Wire.has_brought g.R.Records.is_kept g.R.FlushRecords.leaves c.close.new.self.server c.args.wire.now c.has_while_passed-has_passed.new.self c.close.new.wire (λ ds h. c.has_while_passed-has_passed.ensures.given ds (c.take_all.ensures.unsent ds h)) c.in_ok-close.ensures.acknowledged

pub returns-clause-said : goal.returns-clause-said
returns-clause-said g c =
    let first = c.in_ok-taken.ensures.said in
    let asked = said_further {D = g.row.D.Denot} g.W.Wire.has_brought g.W.Wire.has_waited c.args.wire.now c.take_all.new.wire c.has_while_passed-has_passed.new.self first.0 0 first.2 c.has_while_passed-has_passed.ensures.brought c.has_while_passed-has_passed.ensures.waited in
    (first.0, first.1, said_further {D = g.row.D.Denot} g.W.Wire.has_brought g.W.Wire.has_waited c.args.wire.now c.has_while_passed-has_passed.new.self c.close.new.wire first.0 0 asked c.close.ensures.brought c.close.ensures.waited)

pub returns-clause-ended : goal.returns-clause-ended
returns-clause-ended g c = ended_after {R = g.row.R.Denot} {A = g.row.A.Denot} {D = g.row.D.Denot} g.R.Records.is_kept g.R.FlushRecords.leaves g.W.Wire.was_given c.close.new.self c.args.wire.now c.has_while_passed-has_passed.new.self c.close.new.wire (λ ds h. c.has_while_passed-has_passed.ensures.given ds (c.take_all.ensures.unsent ds h)) c.in_ok-close.ensures.ended
