use Rattle.std.proofs.Common.{arith, subst}
use Rattle.data_model.specs.Trees.{Trees}
use Rattle.node_table.specs.Flat.{IsTableOf}
use Rattle.node_table.specs.Plain.{IsPlain, IsPlainValue}
use Rattle.node_table.specs.Rows.{table_of}
use Rattle.node_table.specs.declared.plain.PlainValue.{PlainValue}
use Rattle.node_table.proofs.PlainValues.{if-some, is-below, plain-in, read-deep, size-pick}
use Rattle.node_table.proofs.cursor.NodeCursor.plain_value.Goals as goal

pub plain_value-requires : goal.plain_value-requires
plain_value-requires c =
    let a = c.self.inside in
    let f = table_of a.rows in
    let P : Trees → Type 0 = IsTableOf f a.next in
    let whole = subst P c.self.view_is c.self.invariant in
    let below = is-below f a.next c.args.self.now whole c.args.id c.requires in
    let few = size-pick f a.next c.args.self.now whole c.args.id c.requires in
    record { deep = omega (arith, below); few = rw (read-deep f a.next c.args.self.now whole c.args.id c.requires) (omega (arith, few)) }

pub returns-clause-plain : goal.returns-clause-plain
returns-clause-plain c =
    let a = c.self.inside in
    let f = table_of a.rows in
    let P : Trees → Type 0 = IsTableOf f a.next in
    let whole = subst P c.self.view_is c.self.invariant in
    let Q : PlainValue → Type 0 = IsPlain f a.next c.args.id in
    let R : PlainValue → Type 0 = IsPlainValue c.args.self.now c.args.id in
    if-some Q R c.plain_value.result (λ v s. plain-in f a.next c.args.self.now whole c.args.id v (read-deep f a.next c.args.self.now whole c.args.id c.requires) s) c.plain_value.ensures.plain
