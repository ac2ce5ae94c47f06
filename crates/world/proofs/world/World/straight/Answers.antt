use Rattle.std.proofs.Common.{◌+◌, ◌*◌, ◌∙◌, arith, [], sym, subst}
use Rattle.std.proofs.lemmas.Result.{err_from_is_err_and}
use Rattle.world.specs.Held.{shown}
use Rattle.world.specs.Reached.{ReachedSmoothly}
use Rattle.world.specs.Runs.{HasDone, IsStraight, RanUntil, straight_run}
use Rattle.world.specs.Shown.{World}
use Rattle.world.proofs.Straightly.{ends_straight, no_reply}
use Rattle.world.proofs.world.World.straight.Goals as goal

pub returns-in_err-straight-clause-refused : goal.returns-in_err-straight-clause-refused
returns-in_err-straight-clause-refused g c =
    let p = err_from_is_err_and c.from_residual.result c.from_residual.ensures.1 in
    rw (p.1, p.2) (subst (λ (w : World g.row.R.Denot g.row.A.Denot). HasDone {R = g.row.R.Denot} {A = g.row.A.Denot} g.R.Records.stands g.R.Records.is_kept g.A.Application.has_applied (g.A.Application.meaning w.names) w (shown c.straight.new.self) (straight_run w.members c.args.member c.args.request) c.in_err-straight.field-0.0)
    c.self.view_is c.in_err-straight.ensures.refused)

pub returns-in_err-straight-clause-ran_until : goal.returns-in_err-straight-clause-ran_until
returns-in_err-straight-clause-ran_until g c =
    let p = err_from_is_err_and c.from_residual.result c.from_residual.ensures.1 in
    rw (p.1, p.2) (subst (λ (w : World g.row.R.Denot g.row.A.Denot). RanUntil {R = g.row.R.Denot} {A = g.row.A.Denot} g.R.Records.stands g.R.Records.is_kept g.R.Records.failed g.R.Records.fates g.A.Application.has_applied (g.A.Application.meaning w.names) (straight_run w.members c.args.member c.args.request) w (shown c.straight.new.self) c.in_err-straight.field-0.0)
    c.self.view_is c.in_err-straight.ensures.ran_until)

pub returns-clause-straight : goal.returns-clause-straight
returns-clause-straight g c = λ kept fresh.
    let old = c.self.inside.state in
    let app = g.A.Application.meaning old.names in
    let end = shown c.straight.new.self in
    let m = c.args.member in
    let q = c.args.request in
    let led = c.in_ok-straight.ensures.done in
    let was = subst (λ (w : World g.row.R.Denot g.row.A.Denot). ReachedSmoothly {R = g.row.R.Denot} {A = g.row.A.Denot} g.R.Records.stands g.A.Application.has_applied (g.A.Application.meaning w.names) w []) (sym c.self.view_is) fresh in
    let reached = subst (λ n. ReachedSmoothly {R = g.row.R.Denot} {A = g.row.A.Denot} g.R.Records.stands g.A.Application.has_applied app end (straight_run n m q)) (sym led.leads.members) (led.reached kept [] was) in
    subst (λ k. IsStraight {R = g.row.R.Denot} {A = g.row.A.Denot} g.A.Application.has_applied end q (k * k + 3 * k + 1)) (sym (c.from-members.ensures ∙ c.count-2.ensures.count))
    (ends_straight {R = g.row.R.Denot} {A = g.row.A.Denot} g.R.Records.stands g.R.Records.is_kept g.A.Application.has_applied app (no_reply app (λ client number. g.met.A.Application.ranges old.names [] client number)) end m q (omega (arith, c.if-member-eq0.false))
    (omega (arith, c.if-member-count.false, c.count.ensures.count, led.leads.members)) c.in_ok-straight.ensures.held.size reached)
