use Rattle.std.proofs.Common.{arith, subst, ◌∙◌, ap, ◌<◌, ◌++◌, ◌∷◌, []}
use Rattle.std.specs.Prelude.{All}
use Rattle.query_paths.proofs.Repeats.{next_added, not_sought}
use Rattle.query_paths.proofs.distinct.Distinct.add.Goals as goal

pub returns-then-number-lt18446744073709551615 : goal.returns-then-number-lt18446744073709551615
returns-then-number-lt18446744073709551615 c =
    let same = c.number-number.ensures in
    let above = c.if-number-self.true in
    let all = not_sought c.self.inside.nodes.items c.self.inside.bound c.self.inside.set c.is_none.result c.is_none.ensures c.if-is_none.true c.self.invariant in
    next_added c.self.inside.bound c.args.node c.args.self.now c.push.new.self.items (subst (λ xs. All (λ i. i < c.self.inside.bound) xs) c.self.view_is all) (omega (arith, same, above)) (c.in_ok-push.ensures.items ∙ ap (λ xs. xs ++ c.args.node ∷ []) c.self.view_is)
