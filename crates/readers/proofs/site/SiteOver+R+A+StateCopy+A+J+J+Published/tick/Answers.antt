use Rattle.std.proofs.Common.{refl}
use Rattle.member.specs.Steps.{ticked}
use Rattle.readers.proofs.Handed.{turned}
use Rattle.readers.proofs.site.SiteOver+R+A+StateCopy+A+J+J+Published.tick.Goals as goal

pub returns-clause-turned : goal.returns-clause-turned
returns-clause-turned g c =
    let was = c.self.inside in
    rw (← c.self.view_is) (
      ticked c.args.tick,
      refl,
      turned {R = g.row.R.Denot} {A = g.row.A.Denot} g.A.Application.has_applied (g.A.Application.meaning was.node.setup.names) (ticked c.args.tick) (record { node = was.node; store = was.store }) (record { node = c.tick.new.self; store = c.hand_over-is_all.new.store }) c.hand_over-is_all.result
          c.in_ok-outbox.outbox c.told.result c.in_ok-outbox.ensures.took c.hand_over-is_all.ensures.handed c.told.ensures.kept.0 c.told.ensures.kept.1 c.told.ensures.all c.told.ensures.cut,
    )
