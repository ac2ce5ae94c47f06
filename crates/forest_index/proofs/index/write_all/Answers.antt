use Rattle.forest_index.proofs.Sized.{write-step}
use Rattle.forest_index.proofs.index.write_all.Goals as goal

pub loop-root-preserved : goal.loop-root-preserved
loop-root-preserved c =
    let some = c.in-Some.ensures.some in
    λ r n e. c.loop-root.invariant r n (write-step c.loop-root.resized c.pop.new.self c.loop-root.sizes c.write.new.sizes c.in-Some.root c.in-Some.size some.0 some.1 c.write.ensures.here c.write.ensures.apart r n e)

pub returns : goal.returns
returns c = λ r n e. c.loop-root.invariant r n (rw (c.in_default.ensures.none r) e)
