use Rattle.std.proofs.Common.{◌≡◌, true, IsSome, ltb, sym, ◌∙◌}
use Rattle.data_model.specs.Order.{precedes}
use Rattle.data_model.specs.Trees.{find}
use Rattle.node_table.specs.Rows.{table_of, trees_of}
use Rattle.node_table.proofs.Ups.{same-ids}
use Rattle.node_table.specs.Rising.{IsAbove}
use Rattle.node_table.proofs.Rising.{siblings, then-some}
use Rattle.node_table.proofs.order.next_above.Goals as goal

pub returns-then-eq-clause-above : goal.returns-then-eq-clause-above
returns-then-eq-clause-above c =
    let b = c.in_ok-above_b.above_b in
    then-some (ltb c.args.above_a.1 b.1) b c.then_some.result (IsAbove c.args.rows.now c.args.b) c.then_some.ensures (λ less. (c.in_ok-above_b.ensures.parent, c.in_ok-above_b.ensures.place))

pub returns-then-eq-clause-has_b : goal.returns-then-eq-clause-has_b
returns-then-eq-clause-has_b c =
    let a = c.args.above_a in
    let b = c.in_ok-above_b.above_b in
    let here : IsAbove c.args.rows.now c.args.b b = (c.in_ok-above_b.ensures.parent, c.in_ok-above_b.ensures.place) in
    let order = siblings c.args.rows.now c.args.levels c.requires.rows c.args.a c.args.b a b c.requires.above here (same-ids a.0 b.0 (sym c.eq.ensures ∙ c.if-eq.true)) in
    then-some (ltb a.1 b.1) b c.then_some.result (λ _. IsSome (find c.args.b (trees_of (table_of c.args.rows.now) c.args.levels))) c.then_some.ensures (λ less. order.1)

pub returns-then-eq-clause-before : goal.returns-then-eq-clause-before
returns-then-eq-clause-before c =
    let a = c.args.above_a in
    let b = c.in_ok-above_b.above_b in
    let here : IsAbove c.args.rows.now c.args.b b = (c.in_ok-above_b.ensures.parent, c.in_ok-above_b.ensures.place) in
    let order = siblings c.args.rows.now c.args.levels c.requires.rows c.args.a c.args.b a b c.requires.above here (same-ids a.0 b.0 (sym c.eq.ensures ∙ c.if-eq.true)) in
    then-some (ltb a.1 b.1) b c.then_some.result (λ _. precedes c.args.a c.args.b (trees_of (table_of c.args.rows.now) c.args.levels) ≡ true) c.then_some.ensures (λ less. order.3 ∙ less)
