use Rattle.std.proofs.Common.{◌+◌, subst, sym}
use Rattle.learner.specs.Terms.{learnt_of}
use Rattle.member.proofs.Gathering.{AreGathered, gathered_more}
use Rattle.member.proofs.learnt.positions_from.Goals as goal

pub loop-position-preserved : goal.loop-position-preserved
loop-position-preserved c =
    let x = c.in-Some.position in
    let es = learnt_of c.args.learner.now in
    subst (AreGathered es c.args.from (x + 1)) (sym c.in_ok-push.ensures.items)
    (gathered_more es c.args.from c.loop-position.next x c.loop-position.learnt.items c.loop-position.invariant c.in-Some.ensures.lowest (c.next_learned.ensures.within x c.in-Some.is).1)
