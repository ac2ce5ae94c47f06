use Rattle.std.proofs.Common.{◌≡◌, ◌+◌, ◌∙◌, ap, sym, arith}
use Rattle.std.specs.declared.cmp.Ordering.TheVariants.{Equal}
use Rattle.sorted_tuples.specs.Keys.{key_at, ranked_cmp}
use Rattle.sorted_tuples.proofs.Ranking.{is_equal, ranked_after}
use Rattle.sorted_tuples.proofs.tuples.compare_in_turn.Goals as goal

pub loop-key-preserved : goal.loop-key-preserved
loop-key-preserved c =
    let at : c.loop-key.position ≡ c.loop-key.key-index = c.loop-key.invariant.0 in
    let equal : c.compare_keys-order.result ≡ Equal = is_equal _ (sym c.is_eq.ensures ∙ c.if-not-is_eq.false) in
    let keys : ranked_cmp (key_at c.loop-key.position c.args.left.now.keys) (key_at c.loop-key.position c.args.right.now.keys) ≡ Equal =
    (λ j. ranked_cmp (sym c.key_at.ensures j) (sym c.key_at-in-loop-key.ensures j)) ∙ sym c.compare_keys-order.ensures ∙ equal in
    let now : ranked_cmp (key_at c.loop-key.key-index c.args.left.now.keys) (key_at c.loop-key.key-index c.args.right.now.keys) ≡ Equal =
    (λ j. ranked_cmp (key_at (sym at j) c.args.left.now.keys) (key_at (sym at j) c.args.right.now.keys)) ∙ keys in
    (ap (λ n. n + 1) at, c.loop-key.invariant.1 ∙ ranked_after c.args.keys.now c.loop-key.key-index _ _ (omega (arith, c.loop-key-test.true)) now)
