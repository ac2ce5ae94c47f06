use Rattle.std.proofs.Common.{arith, refl, inl, inr, sym, ◌∙◌}
use Rattle.world.specs.Held.{shown}
use Rattle.world.specs.Runs.{straight_event}
use Rattle.world.specs.Reached.{HaveDone, is_cut}
use Rattle.world.proofs.Leading.{leads_one, leads_still, smoothly_one}
use Rattle.world.proofs.Straightly.{all_found, one_stopped}
use Rattle.world.proofs.state.State.go_straight.Goals as goal

pub returns-in_default-clause-refused : goal.returns-in_default-clause-refused
returns-in_default-clause-refused g c = inl (
  refl,
  leads_still {R = g.row.R.Denot} {A = g.row.A.Denot} g.R.Records.stands g.R.Records.is_kept g.A.Application.has_applied (g.A.Application.meaning c.args.self.now.names)
      (shown c.args.self.now) (shown c.straight_event.new.self) c.requires.held.most c.in_default.ensures.refused,
)

pub returns-then-not-all_run-clause-refused : goal.returns-then-not-all_run-clause-refused
returns-then-not-all_run-clause-refused g c =
    let self = c.args.self.now in
    let e = straight_event self.members c.args.member c.args.request.now c.args.before in (
      leads_one {R = g.row.R.Denot} {A = g.row.A.Denot} g.R.Records.stands g.R.Records.is_kept g.A.Application.has_applied (g.A.Application.meaning self.names) (shown self) (shown c.straight_event.new.self) c.requires.held.most
          (HaveDone g.R.Records.failed g.R.Records.fates (is_cut e) self.seats.items c.straight_event.new.self.seats.items) e c.in-Ok.ensures.happened,
      one_stopped {R = g.row.R.Denot} {A = g.row.A.Denot} (shown c.straight_event.new.self) (sym c.all_run.ensures ∙ c.if-not-all_run.true),
    )

pub returns-then-not-all_applied-clause-refused : goal.returns-then-not-all_applied-clause-refused
returns-then-not-all_applied-clause-refused g c =
    let self = c.args.self.now in
    let e = straight_event self.members c.args.member c.args.request.now c.args.before in
    inr (
      omega arith,
      leads_one {R = g.row.R.Denot} {A = g.row.A.Denot} g.R.Records.stands g.R.Records.is_kept g.A.Application.has_applied (g.A.Application.meaning self.names) (shown self) (shown c.straight_event.new.self) c.requires.held.most
          (HaveDone g.R.Records.failed g.R.Records.fates (is_cut e) self.seats.items c.straight_event.new.self.seats.items) e c.in-Ok.ensures.happened,
    )

pub returns-clause-done : goal.returns-clause-done
returns-clause-done g c =
    let self = c.args.self.now in
    let end = shown c.straight_event.new.self in
    let held = c.straight_event.ensures.held in
    let e = straight_event self.members c.args.member c.args.request.now c.args.before in
    smoothly_one {R = g.row.R.Denot} {A = g.row.A.Denot} g.R.Records.stands g.R.Records.is_kept g.A.Application.has_applied (g.A.Application.meaning self.names) (shown self) end c.requires.held.most
    (HaveDone g.R.Records.failed g.R.Records.fates (is_cut e) self.seats.items end.seats) e held.size held.seats
    (all_found {R = g.row.R.Denot} {A = g.row.A.Denot} end (sym c.all_run.ensures ∙ c.if-not-all_run.false)) (c.all_applied.ensures.all c.if-not-all_applied.false) c.in-Ok.ensures.happened

pub returns-in_default-clause-ran_until : goal.returns-in_default-clause-ran_until
returns-in_default-clause-ran_until g c = inl (refl, c.in_default.ensures.refused)

pub returns-then-not-all_run-clause-ran_until : goal.returns-then-not-all_run-clause-ran_until
returns-then-not-all_run-clause-ran_until g c = (c.in-Ok.ensures.happened, one_stopped {R = g.row.R.Denot} {A = g.row.A.Denot} (shown c.straight_event.new.self) (sym c.all_run.ensures ∙ c.if-not-all_run.true))

pub returns-then-not-all_applied-clause-ran_until : goal.returns-then-not-all_applied-clause-ran_until
returns-then-not-all_applied-clause-ran_until g c = inr (omega arith, c.in-Ok.ensures.happened)
