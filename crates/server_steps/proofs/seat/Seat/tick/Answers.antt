use Rattle.std.proofs.Common.{[], refl, ap, ◌∙◌, Err, None}
use Rattle.ballots.specs.Terms.{Setup}
use Rattle.member.specs.Steps.{ticked}
use Rattle.server_steps.proofs.Holding.{held_more, held_no_more, held_same}
use Rattle.server_steps.proofs.Outcomes.{on_err, on_ok}
use Rattle.server_steps.proofs.Seats.{halts, refuses_tick, stays_node}
use Rattle.server_steps.specs.Moves.{missed, ticked_so}
use Rattle.server_steps.proofs.seat.Seat.tick.Goals as goal

pub returns-then-is_err-clause-ticked : goal.returns-then-is_err-clause-ticked
returns-then-is_err-clause-ticked g c = (
  [],
  missed (record { node = stays_node {R = g.row.R.Denot} {A = g.row.A.Denot} g.A.Application.has_applied g.A.Application.meaning g.R.Records.failed _; lost = refl }) refl,
  held_no_more _ _ _ _ c.reserve.ensures.place c.reserve.ensures.same,
)

pub returns-in-Ok-clause-ticked : goal.returns-in-Ok-clause-ticked
returns-in-Ok-clause-ticked g c =
    let setup = c.args.self.now.node.setup in (
      _,
      ticked_so (record { outbox = c.in-Ok.outbox; steps = c.in-Ok.ensures.took; lost = refl; sends = refl }),
      held_more c.args.hold.now.place c.reserve.new.self.place c.push.new.self.place c.args.hold.now.outboxes.items c.reserve.new.self.outboxes.items c.push.new.self.outboxes.items None setup.members c.count-members.result setup.member c.member-member.result c.in-Ok.outbox
          c.reserve.ensures.place c.reserve.ensures.same (c.count-members.ensures.count ∙ c.members.ensures ∙ ap (λ (s : Setup). s.members) c.setup.ensures) (c.member-member.ensures.member ∙ ap (λ (s : Setup). s.member) c.setup-2.ensures) c.push.ensures.held,
    )

pub returns-in-Err-clause-ticked : goal.returns-in-Err-clause-ticked
returns-in-Err-clause-ticked g c =
    on_ok c.refuse_tick.result c.refuse_tick.ensures.refused (λ is. (
      [],
      refuses_tick {R = g.row.R.Denot} {A = g.row.A.Denot} g.A.Application.has_applied g.A.Application.meaning g.R.Records.failed c.args.self.now c.refuse_tick.new.self c.tick.new.self c.refuse_tick.ensures.same c.args.hold.now.place c.args.tick c.in-Err.fault is
          (λ u r e. c.in-Err.ensures.spent u r (ap Err e)) c.in-Err.ensures.refused,
      held_no_more _ _ _ _ c.reserve.ensures.place c.reserve.ensures.same,
    ))

pub returns-in-Err-clause-halted : goal.returns-in-Err-clause-halted
returns-in-Err-clause-halted g c =
    on_err c.refuse_tick.result c.refuse_tick.ensures.halted (λ is. (
      halts {R = g.row.R.Denot} {A = g.row.A.Denot} g.A.Application.has_applied g.A.Application.meaning g.R.Records.failed c.args.self.now c.refuse_tick.new.self c.tick.new.self c.refuse_tick.ensures.same g.R.Records.stands g.R.Records.is_kept g.R.Records.base g.R.FlushRecords.leaves c.in-Err.fault is
          (λ e. (ticked c.args.tick, c.in-Err.ensures.store (ap Err e))) (λ e. c.in-Err.ensures.stopped.0 (ap Err e)) c.in-Err.ensures.refused,
      held_same _ _ _ _ c.reserve.ensures.place c.reserve.ensures.same,
    ))
