use Rattle.tracked_drafts.proofs.Changes.{stored-whole}
use Rattle.tracked_drafts.proofs.tracked.TrackedDraft.new.Goals as goal

pub invariant_of-result : goal.invariant_of-result
invariant_of-result c = rw (c.new-2.ensures.empty, c.new.ensures) (stored-whole c.args.forest.trees c.requires.stored)
