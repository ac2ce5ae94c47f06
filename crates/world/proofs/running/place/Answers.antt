use Rattle.std.proofs.Common.{None, Some, ap, subst, ⊎_elim, ◌∙◌}
use Rattle.paxos.specs.World.{fresh}
use Rattle.world.specs.Placed.{IsPlaced}
use Rattle.world.proofs.Begun.{placed}
use Rattle.world.proofs.running.place.Goals as goal

pub returns-in-Ok-open-clause-placed : goal.returns-in-Ok-open-clause-placed
returns-in-Ok-open-clause-placed g c =
    let e = c.in-Ok-open.ensures in
    subst (λ t. IsPlaced {R = g.row.R.Denot} {A = g.row.A.Denot} g.R.Records.is_kept g.A.Application.has_applied t (record { node = Some c.in-Ok-open.node; left = None })) (c.in-Ok.ensures.made ∙ ap (λ n. record { group = c.args.group; member = c.args.number; members = n; names = c.args.names.now }) c.count.ensures.count)
    (placed {R = g.row.R.Denot} {A = g.row.A.Denot} g.R.Records.is_kept g.A.Application.has_applied c.in-Ok.setup c.in-Ok-open.node c.in-Ok-open._is_short e.setup e.running
    (λ k. ⊎_elim (λ q. q) (λ q. q) (e.loaded k fresh.kept fresh.kept (c.requires.unwritten (e.kept k)))) e.started)
