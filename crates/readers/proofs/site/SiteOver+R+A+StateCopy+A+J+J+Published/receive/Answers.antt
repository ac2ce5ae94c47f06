use Rattle.std.proofs.Common.{refl}
use Rattle.member.specs.Steps.{Hears}
use Rattle.readers.proofs.Handed.{turned}
use Rattle.readers.proofs.site.SiteOver+R+A+StateCopy+A+J+J+Published.receive.Goals as goal

pub returns-in-Err-clause-stranger : goal.returns-in-Err-clause-stranger
returns-in-Err-clause-stranger g c = rw (← c.self.view_is) c.in-Err.ensures.stranger

pub returns-clause-turned : goal.returns-clause-turned
returns-clause-turned g c =
    let was = c.self.inside in
    let took = c.in-Ok.ensures.took in
    rw (← c.self.view_is) (
      Hears took.0,
      (took.0, took.1, refl),
      turned {R = g.row.R.Denot} {A = g.row.A.Denot} g.A.Application.has_applied (g.A.Application.meaning was.node.setup.names) (Hears took.0) (record { node = was.node; store = was.store }) (record { node = c.receive.new.self; store = c.hand_over-is_all.new.store }) c.hand_over-is_all.result
          c.in-Ok.outbox c.told.result took.2 c.hand_over-is_all.ensures.handed c.told.ensures.kept.0 c.told.ensures.kept.1 c.told.ensures.all c.told.ensures.cut,
    )

pub returns-in-Err-clause-failed : goal.returns-in-Err-clause-failed
returns-in-Err-clause-failed g c = rw (← c.self.view_is) (λ h. let f = c.in-Err.ensures.store h in (Hears f.0, (f.0, f.1, refl), f.2))
