use Rattle.trees.proofs.Copied.{own-read}
use Rattle.trees.proofs.forest.Forest.without_texts.Goals as goal

pub returns-clause-left : goal.returns-clause-left
returns-clause-left c =
    let read = own-read c.self.inside c.args.self.now c.self.view_is c.self.invariant c.args.id c.requires in
    rw read at c.without_texts.ensures.left

pub returns-clause-more : goal.returns-clause-more
returns-clause-more c =
    let read = own-read c.self.inside c.args.self.now c.self.view_is c.self.invariant c.args.id c.requires in
    rw read at c.without_texts.ensures.more
