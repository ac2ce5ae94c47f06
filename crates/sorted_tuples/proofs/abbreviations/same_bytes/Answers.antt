use Rattle.std.proofs.Common.{arith}
use Rattle.sorted_tuples.proofs.Shared.{past_shorter}
use Rattle.sorted_tuples.proofs.abbreviations.same_bytes.Goals as goal

pub returns : goal.returns
returns c =
    let nothing = past_shorter c.args.left.now c.args.right.now c.loop-at.at (omega (arith, c.min-both.ensures, c.loop-at-test.false)) in
    omega (arith, nothing, c.min-both.ensures, c.loop-at-test.false, c.loop-at.invariant, c.loop-at.auto.at-end)
