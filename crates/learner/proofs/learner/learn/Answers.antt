use Rattle.std.proofs.Common.{◌≡◌, ◌∷◌, ◌++◌, []}
use Rattle.learner.proofs.Learning.{learning_more}
use Rattle.learner.proofs.learner.learn.Goals as goal

pub loop-pair-preserved : goal.loop-pair-preserved
loop-pair-preserved c =
    let s : c.loop-pair.pairs.items ≡ c.pop.new.self.items ++ c.in-Some.pair ∷ [] = c.in-Some.ensures.items in
    (c.in-Some.pair ∷ c.loop-pair.invariant.0, learning_more _ c.loop-pair.pairs.items c.pop.new.self.items c.loop-pair.invariant.0 c.in-Some.pair _ c.loop-pair.chosen c.fill.new.self _ c.loop-pair.tallies c.forget.new.self c.loop-pair.invariant.1 s c.fill.ensures.put c.fill.ensures.others c.forget.ensures)
