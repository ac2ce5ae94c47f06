use Rattle.std.proofs.Common.{◌≤◌, ◌+◌, arith, inl, inr, length}
use Rattle.serving.proofs.Closing.{first_more, first_none, first_still}
use Rattle.serving.proofs.Rounding.{turns_came}
use Rattle.serving.specs.Serves.{no_round, one_round}
use Rattle.server_steps.proofs.Said.{said_both, said_none}
use Rattle.server_steps.proofs.Going.{goes_none, passed_both, passed_none, passed_stops}
use Rattle.server_steps.specs.Going.{has_brought_beside, was_given_or_held}
use Rattle.server_steps.specs.Moves.{AreTurns, came_by}
use Rattle.serving.proofs.server.Server.serve.Goals as goal

pub loop-try-init : goal.loop-try-init
loop-try-init g c = (omega arith, passed_none {R = g.row.R.Denot} {A = g.row.A.Denot} {D = g.row.D.Denot} g.A.Application.has_applied g.A.Application.meaning g.R.Records.failed g.D.PartialEq.eq (was_given_or_held g.W.Wire.was_given) (has_brought_beside g.W.Wire.has_brought) g.R.Records.stands g.R.Records.is_kept g.R.Records.base g.R.FlushRecords.leaves _ _ _ (goes_none {R = g.row.R.Denot} {A = g.row.A.Denot} {D = g.row.D.Denot} g.A.Application.has_applied g.A.Application.meaning g.R.Records.failed g.D.PartialEq.eq (was_given_or_held g.W.Wire.was_given) (has_brought_beside g.W.Wire.has_brought) _ _), first_none {R = g.row.R.Denot} {A = g.row.A.Denot} {D = g.row.D.Denot} g.A.Application.has_applied g.A.Application.meaning g.R.Records.failed g.D.PartialEq.eq g.W.Wire.was_given g.W.Wire.has_brought g.R.Records.is_kept g.R.FlushRecords.leaves _ _, (0, said_none {D = g.row.D.Denot} g.W.Wire.has_brought g.W.Wire.has_waited _, omega arith), no_round)

pub loop-try-preserved : goal.loop-try-preserved
loop-try-preserved g c =
    let both = passed_both {R = g.row.R.Denot} {A = g.row.A.Denot} {D = g.row.D.Denot} g.A.Application.has_applied g.A.Application.meaning g.R.Records.failed g.D.PartialEq.eq (was_given_or_held g.W.Wire.was_given) (has_brought_beside g.W.Wire.has_brought) g.R.Records.stands g.R.Records.is_kept g.R.Records.base g.R.FlushRecords.leaves c.loop-try.taken _ _ _ _ _ _ _ c.loop-try.invariant.1 c.in_ok-taken.ensures.took in
    let one = c.in_ok-taken.ensures.took in
    let before = c.loop-try.invariant.3 in
    let more = c.in_ok-taken.ensures.said in (
      omega (arith, c.if-taken-turns.false, c.in_ok-taken.ensures.most, c.min.ensures),
      both,
      first_more {R = g.row.R.Denot} {A = g.row.A.Denot} {D = g.row.D.Denot} g.A.Application.has_applied g.A.Application.meaning g.R.Records.failed g.D.PartialEq.eq g.W.Wire.was_given g.W.Wire.has_brought g.R.Records.is_kept g.R.FlushRecords.leaves _ _ _ _ _ both.0 c.loop-try.invariant.2 both.3 c.in_ok-taken.ensures.acknowledged,
      (
        before.0 + more.0,
        said_both {D = g.row.D.Denot} g.W.Wire.has_brought g.W.Wire.has_waited _ _ _ c.loop-try.taken _ before.0 more.0 before.1 more.2,
        (let tried = before.2 in let some = more.1 in omega (arith, tried, some)),
      ),
      one_round _ _ _ _ one.0 c.loop-try.invariant.4 one.3 (let few = turns_came _ one.0 one.1 in let most : length (came_by one.0) ≤ 64 = omega (arith, few, c.in_ok-taken.ensures.most, c.min.ensures) in most) c.in_ok-taken.ensures.ended,
    )

pub returns-in_err-taken-clause-took : goal.returns-in_err-taken-clause-took
returns-in_err-taken-clause-took g c =
    passed_stops {R = g.row.R.Denot} {A = g.row.A.Denot} {D = g.row.D.Denot} g.A.Application.has_applied g.A.Application.meaning g.R.Records.failed g.D.PartialEq.eq (was_given_or_held g.W.Wire.was_given) (has_brought_beside g.W.Wire.has_brought) g.R.Records.stands g.R.Records.is_kept g.R.Records.base g.R.FlushRecords.leaves AreTurns c.from_residual.result _ _ _ _ _ _ _ _ c.from_residual.ensures.0 c.loop-try.invariant.1 c.in_err-taken.ensures.took.1

pub returns-in_err-taken-clause-acknowledged : goal.returns-in_err-taken-clause-acknowledged
returns-in_err-taken-clause-acknowledged g c = first_still {R = g.row.R.Denot} {A = g.row.A.Denot} {D = g.row.D.Denot} g.A.Application.has_applied g.A.Application.meaning g.R.Records.failed g.D.PartialEq.eq g.W.Wire.was_given g.W.Wire.has_brought g.R.Records.is_kept g.R.FlushRecords.leaves _ _ _ _ c.loop-try.invariant.2 c.in_err-taken.ensures.unsent

pub returns-after-loop-try-clause-all : goal.returns-after-loop-try-clause-all
returns-after-loop-try-clause-all g c =
    let said = c.loop-try.invariant.3 in
    (said.0, said.1, inr (let tried = said.2 in omega (arith, tried, c.loop-try-test.false)))

pub returns-then-taken-turns-clause-all : goal.returns-then-taken-turns-clause-all
returns-then-taken-turns-clause-all g c =
    let said = c.loop-try.invariant.3 in
    (said.0, said.1, inl (omega (arith, c.loop-try.invariant.0, c.if-taken-turns.true)))
