use Rattle.std.proofs.Common.{subst, ap, drop, string_bytes, arith, ◌+◌}
use Rattle.paxos.specs.World.{told_to}
use Rattle.world.specs.Tellings.{told_in}
use Rattle.paxq_sim.proofs.Reports.{TellsOn, drop_item, tells_more}
use Rattle.paxq_sim.proofs.report.push_told.Goals as goal

pub loop-telling-preserved : goal.loop-telling-preserved
loop-telling-preserved c =
    let told = c.args.told.now in
    let i = c.loop-telling.telling-index in
    let t = c.telling-item.result in
    let left = ap told_in (drop_item told i t (omega (arith, c.loop-telling-test.true, c.loop-telling.auto.telling-index-end)) c.telling-item.is) in
    tells_more (string_bytes c.args.out.now) (told_in told) (string_bytes c.loop-telling.out) (string_bytes c.push_new.new.out) c.loop-telling.places c.push_new.new.places
    (told_to t.member t.pair) (told_in (drop (i + 1) told)) c.in_ok-push_new.ensures.text c.in_ok-push_new.ensures.places
    (subst (TellsOn (string_bytes c.args.out.now) (told_in told) (string_bytes c.loop-telling.out) c.loop-telling.places) left c.loop-telling.invariant)
