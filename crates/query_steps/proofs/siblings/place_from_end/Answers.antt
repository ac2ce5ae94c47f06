use Rattle.std.proofs.Common.{◌≡◌, ◌∙◌, ◌-◌, ◌<◌, ap, drop, length, sym, arith}
use Prim.Native.Nat.{suc}
use Rattle.data_model.specs.Walks.{held}
use Rattle.query_steps.proofs.Turns.{none-last}
use Rattle.query_steps.proofs.siblings.place_from_end.Goals as goal

pub loop-at-preserved : goal.loop-at-preserved
loop-at-preserved c =
    let most = c.loop-at.invariant.0 in
    let some = c.loop-at-test.true in
    let k = c.loop-at.at - 1 in
    let less : k < length c.args.nodes.now = omega arith in
    let again : suc k ≡ c.loop-at.at = omega arith in
    (omega arith, none-last c.args.node c.args.nodes.now k c.index-nodes-at.result less c.index-nodes-at.is (sym c.eq.ensures ∙ c.if-eq.false) (ap (λ n. held c.args.node (drop n c.args.nodes.now)) again ∙ c.loop-at.invariant.1))
