use Rattle.std.proofs.Common.{subst}
use Rattle.proposer.specs.Merging.{HaveRoom}
use Rattle.proposer.specs.Views.{AreRising}
use Rattle.proposer.proofs.Merging.{merge_more, parted, last_room}
use Rattle.proposer.proofs.reported.merge_all.Goals as goal

pub merge_one-requires-clause-most : goal.merge_one-requires-clause-most
merge_one-requires-clause-most c = (parted 1 c.pop.new.self.items c.in-Some.entry (subst (AreRising 1) c.in-Some.ensures.items c.loop-entry.invariant.rising)).3

pub merge_one-requires-clause-room : goal.merge_one-requires-clause-room
merge_one-requires-clause-room c = (last_room c.pop.new.self.items c.in-Some.entry c.loop-entry.reports (subst (λ es. HaveRoom es c.loop-entry.reports) c.in-Some.ensures.items c.loop-entry.invariant.places)).1

pub loop-entry-preserved : goal.loop-entry-preserved
loop-entry-preserved c =
    merge_more c.args.entries.items c.pop.new.self.items c.loop-entry.left.items c.in-Some.entry c.args.reports.now c.loop-entry.reports c.merge_one.new.reports c.in-Some.ensures.items c.loop-entry.invariant c.merge_one.ensures
