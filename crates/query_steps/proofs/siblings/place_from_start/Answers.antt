use Rattle.std.proofs.Common.{◌≡◌, ◌∙◌, ◌+◌, ap, take, sym, arith}
use Prim.Native.Nat.{suc}
use Rattle.data_model.specs.Walks.{held}
use Rattle.query_steps.proofs.Turns.{none-first}
use Rattle.query_steps.proofs.siblings.place_from_start.Goals as goal

pub loop-at-preserved : goal.loop-at-preserved
loop-at-preserved c =
    let k = c.loop-at.at in
    let more : k + 1 ≡ suc k = omega arith in
    ap (λ n. held c.args.node (take n c.args.nodes.now)) more ∙ none-first c.args.node c.args.nodes.now k c.index-nodes-at.result c.loop-at-test.true c.index-nodes-at.is (sym c.eq.ensures ∙ c.if-eq.false) c.loop-at.invariant
