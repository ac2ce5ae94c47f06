use Rattle.std.proofs.Common.{[], refl, ap, ◌∙◌, Err, Some}
use Rattle.ballots.specs.Terms.{Setup}
use Rattle.member.specs.Steps.{Hears}
use Rattle.server_steps.proofs.Holding.{held_more, held_no_more, held_same}
use Rattle.server_steps.proofs.Outcomes.{if_ok, on_err}
use Rattle.server_steps.proofs.Seats.{halts, refuses, sender_byte, stays, stays_node}
use Rattle.server_steps.specs.Moves.{from_elsewhere, heard, lost}
use Rattle.server_steps.proofs.seat.Seat.hear.Goals as goal

pub returns-then-not-is_from_sender-clause-heard :
    goal.returns-then-not-is_from_sender-clause-heard
returns-then-not-is_from_sender-clause-heard g c end = (
  [],
  from_elsewhere c.if-not-is_from_sender.ensures (stays {R = g.row.R.Denot} {A = g.row.A.Denot} g.A.Application.has_applied g.A.Application.meaning g.R.Records.failed _) refl,
  held_no_more c.args.hold.now.place c.args.hold.now.place c.args.hold.now.outboxes.items c.args.hold.now.outboxes.items refl refl,
)

pub returns-then-is_err-clause-heard : goal.returns-then-is_err-clause-heard
returns-then-is_err-clause-heard g c end = (
  [],
  lost (record { node = stays_node {R = g.row.R.Denot} {A = g.row.A.Denot} g.A.Application.has_applied g.A.Application.meaning g.R.Records.failed _; lost = refl }) refl,
  held_no_more _ _ _ _ c.reserve.ensures.place c.reserve.ensures.same,
)

pub returns-in-Ok-clause-heard : goal.returns-in-Ok-clause-heard
returns-in-Ok-clause-heard g c end =
    let took = c.in-Ok.ensures.took in
    let setup = c.args.self.now.node.setup in (
      _,
      heard took.0 took.1 (c.if-not-is_from_sender.ensures took.0.sender (sender_byte setup c.args.bytes.now took.0 took.1)) (record { outbox = c.in-Ok.outbox; steps = took.2; lost = refl; sends = refl }),
      held_more c.args.hold.now.place c.reserve.new.self.place c.push.new.self.place c.args.hold.now.outboxes.items c.reserve.new.self.outboxes.items c.push.new.self.outboxes.items (Some c.args.from) setup.members c.count-members.result setup.member c.member-member.result c.in-Ok.outbox
          c.reserve.ensures.place c.reserve.ensures.same (c.count-members.ensures.count ∙ c.members.ensures ∙ ap (λ (s : Setup). s.members) c.setup.ensures) (c.member-member.ensures.member ∙ ap (λ (s : Setup). s.member) c.setup-2.ensures) c.push.ensures.held,
    )

pub returns-in-Err-clause-heard : goal.returns-in-Err-clause-heard
returns-in-Err-clause-heard g c =
    let was = c.args.self.now in
    let now = c.refuse.new.self in
    if_ok c.refuse.result c.refuse.ensures.refused (λ is end. (
      [],
      refuses {R = g.row.R.Denot} {A = g.row.A.Denot} g.A.Application.has_applied g.A.Application.meaning g.R.Records.failed g.D.PartialEq.eq c.args.hold.now.place (record { end = end; peer = c.args.from; bytes = c.args.bytes.now })
          was now c.receive.new.self c.refuse.ensures.same c.in-Err.fault is
          (λ f e. c.in-Err.ensures.wire f (ap Err e)) (λ e. c.in-Err.ensures.stranger (ap Err e)) c.in-Err.ensures.refused,
      held_no_more _ _ _ _ c.reserve.ensures.place c.reserve.ensures.same,
    ))

pub returns-in-Err-clause-halted : goal.returns-in-Err-clause-halted
returns-in-Err-clause-halted g c =
    let was = c.args.self.now in
    let now = c.refuse.new.self in
    on_err c.refuse.result c.refuse.ensures.halted (λ is. (
      halts {R = g.row.R.Denot} {A = g.row.A.Denot} g.A.Application.has_applied g.A.Application.meaning g.R.Records.failed was now c.receive.new.self c.refuse.ensures.same g.R.Records.stands g.R.Records.is_kept g.R.Records.base g.R.FlushRecords.leaves c.in-Err.fault is
          (λ e. let h = c.in-Err.ensures.store (ap Err e) in (Hears h.0, h.2)) (λ e. c.in-Err.ensures.stopped.0 (ap Err e)) c.in-Err.ensures.refused,
      held_same _ _ _ _ c.reserve.ensures.place c.reserve.ensures.same,
    ))
