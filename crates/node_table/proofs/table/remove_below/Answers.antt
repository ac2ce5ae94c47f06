use Rattle.std.proofs.Common.{◌≡◌, cond, ap, ◌∙◌, arith}
use Rattle.data_model.specs.Walks.{held}
use Rattle.node_table.proofs.Onces.{held-none}
use Rattle.node_table.proofs.table.remove_below.Goals as goal

pub returns-else-not-remove-clause-lists : goal.returns-else-not-remove-clause-lists
returns-else-not-remove-clause-lists c =
    let one : held c.args.child c.args.row.now.attributes.items ≡ 1 = c.remove.ensures.had ∙ ap (λ b. cond b 1 0) c.if-not-remove.false in
    let once = c.requires in
    rw (c.remove.ensures.removed, held-none c.args.child c.args.row.now.children.items (omega arith))

pub returns-else-not-remove-2-clause-lists : goal.returns-else-not-remove-2-clause-lists
returns-else-not-remove-2-clause-lists c =
    let one : held c.args.child c.args.row.now.children.items ≡ 1 = c.remove-in-Children.ensures.had ∙ ap (λ b. cond b 1 0) c.if-not-remove-2.false in
    let once = c.requires in
    rw (c.remove-in-Children.ensures.removed, held-none c.args.child c.args.row.now.attributes.items (omega arith))
