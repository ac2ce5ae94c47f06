use Rattle.std.proofs.Common.{◌≡◌, ◌∙◌, ◌-◌, ap, sym, arith, option_copied}
use Rattle.data_model.specs.Trees.{size}
use Rattle.node_table.specs.Flat.{read_trees}
use Rattle.node_table.specs.Rows.{table_of, entry_of_row}
use Rattle.node_table.proofs.Texts.{size-turn, size-stop}
use Rattle.node_table.proofs.Rows.{row-entry, row-none}
use Rattle.node_table.proofs.walk.+count_by.Goals as goal

pub returns-in_default-clause-count : goal.returns-in_default-clause-count
returns-in_default-clause-count t c =
    let f = table_of c.args.cursor.now in
    let stop = size-stop f (read_trees (c.args.levels - 1) f) c.args.ids.now c.loop-id.id-index c.id-item.result c.loop-id-test.true c.id-item.is
    (rw (c.number.ensures, c.loop-id.invariant.0) at (row-none c.loop-id.cursor c.number.result (sym c.seek.ensures.value ∙ ap option_copied c.in_default.is))) in
    let all = c.loop-id.invariant.1 in
    let sought = c.seek.ensures.same ∙ c.loop-id.invariant.0 in
    omega arith

pub count_by-requires : goal.count_by-requires
count_by-requires t c =
    let f = table_of c.args.cursor.now in
    let below = read_trees (c.args.levels - 1) f in
    let turn = size-turn f below c.args.ids.now c.loop-id.id-index c.id-item.result (entry_of_row c.in-Some.row.now) c.loop-id-test.true c.id-item.is
    (rw (c.number.ensures, c.loop-id.invariant.0) at (row-entry c.loop-id.cursor c.number.result c.in-Some.row.now (sym c.seek.ensures.value ∙ ap option_copied c.in-Some.is))) in
    let all = c.loop-id.invariant.1 in
    let sought = c.seek.ensures.same ∙ c.loop-id.invariant.0 in
    let fits = c.requires in
    let list1 = c.deref.ensures.value in
    let less = c.decreases in
    let some = c.if-levels-eq0.false in
    (omega arith, rw (list1, sought) (omega arith))

pub overflow_add-nodes : goal.overflow_add-nodes
overflow_add-nodes t c =
    let f = table_of c.args.cursor.now in
    let below = read_trees (c.args.levels - 1) f in
    let turn = size-turn f below c.args.ids.now c.loop-id.id-index c.id-item.result (entry_of_row c.in-Some.row.now) c.loop-id-test.true c.id-item.is
    (rw (c.number.ensures, c.loop-id.invariant.0) at (row-entry c.loop-id.cursor c.number.result c.in-Some.row.now (sym c.seek.ensures.value ∙ ap option_copied c.in-Some.is))) in
    let all = c.loop-id.invariant.1 in
    let sought = c.seek.ensures.same ∙ c.loop-id.invariant.0 in
    let fits = c.requires in
    let list1 = c.deref.ensures.value in
    let less = c.decreases in
    let some = c.if-levels-eq0.false in
    let one : c.count_by.result ≡ size (below c.in-Some.row.now.attributes.items) = rw (list1, sought) at c.count_by.ensures.count in
    let first = c.count_by.ensures.same ∙ sought in
    omega arith

pub overflow_add-nodes-in-loop-id : goal.overflow_add-nodes-in-loop-id
overflow_add-nodes-in-loop-id t c =
    let f = table_of c.args.cursor.now in
    let below = read_trees (c.args.levels - 1) f in
    let turn = size-turn f below c.args.ids.now c.loop-id.id-index c.id-item.result (entry_of_row c.in-Some.row.now) c.loop-id-test.true c.id-item.is
    (rw (c.number.ensures, c.loop-id.invariant.0) at (row-entry c.loop-id.cursor c.number.result c.in-Some.row.now (sym c.seek.ensures.value ∙ ap option_copied c.in-Some.is))) in
    let all = c.loop-id.invariant.1 in
    let sought = c.seek.ensures.same ∙ c.loop-id.invariant.0 in
    let fits = c.requires in
    let list1 = c.deref.ensures.value in
    let less = c.decreases in
    let some = c.if-levels-eq0.false in
    let one : c.count_by.result ≡ size (below c.in-Some.row.now.attributes.items) = rw (list1, sought) at c.count_by.ensures.count in
    let first = c.count_by.ensures.same ∙ sought in
    omega arith

pub count_by-nodes-requires : goal.count_by-nodes-requires
count_by-nodes-requires t c =
    let f = table_of c.args.cursor.now in
    let below = read_trees (c.args.levels - 1) f in
    let turn = size-turn f below c.args.ids.now c.loop-id.id-index c.id-item.result (entry_of_row c.in-Some.row.now) c.loop-id-test.true c.id-item.is
    (rw (c.number.ensures, c.loop-id.invariant.0) at (row-entry c.loop-id.cursor c.number.result c.in-Some.row.now (sym c.seek.ensures.value ∙ ap option_copied c.in-Some.is))) in
    let all = c.loop-id.invariant.1 in
    let sought = c.seek.ensures.same ∙ c.loop-id.invariant.0 in
    let fits = c.requires in
    let list1 = c.deref.ensures.value in
    let less = c.decreases in
    let some = c.if-levels-eq0.false in
    let one : c.count_by.result ≡ size (below c.in-Some.row.now.attributes.items) = rw (list1, sought) at c.count_by.ensures.count in
    let first = c.count_by.ensures.same ∙ sought in
    let list2 = c.deref-in-loop-id.ensures.value in
    (omega arith, rw (list2, first) (omega arith))

pub overflow_add-nodes-in-loop-id-2 : goal.overflow_add-nodes-in-loop-id-2
overflow_add-nodes-in-loop-id-2 t c =
    let f = table_of c.args.cursor.now in
    let below = read_trees (c.args.levels - 1) f in
    let turn = size-turn f below c.args.ids.now c.loop-id.id-index c.id-item.result (entry_of_row c.in-Some.row.now) c.loop-id-test.true c.id-item.is
    (rw (c.number.ensures, c.loop-id.invariant.0) at (row-entry c.loop-id.cursor c.number.result c.in-Some.row.now (sym c.seek.ensures.value ∙ ap option_copied c.in-Some.is))) in
    let all = c.loop-id.invariant.1 in
    let sought = c.seek.ensures.same ∙ c.loop-id.invariant.0 in
    let fits = c.requires in
    let list1 = c.deref.ensures.value in
    let less = c.decreases in
    let some = c.if-levels-eq0.false in
    let one : c.count_by.result ≡ size (below c.in-Some.row.now.attributes.items) = rw (list1, sought) at c.count_by.ensures.count in
    let first = c.count_by.ensures.same ∙ sought in
    let list2 = c.deref-in-loop-id.ensures.value in
    let two : c.count_by-nodes.result ≡ size (below c.in-Some.row.now.children.items) = rw (list2, first) at c.count_by-nodes.ensures.count in
    omega arith

pub loop-id-preserved : goal.loop-id-preserved
loop-id-preserved t c =
    let f = table_of c.args.cursor.now in
    let below = read_trees (c.args.levels - 1) f in
    let turn = size-turn f below c.args.ids.now c.loop-id.id-index c.id-item.result (entry_of_row c.in-Some.row.now) c.loop-id-test.true c.id-item.is
    (rw (c.number.ensures, c.loop-id.invariant.0) at (row-entry c.loop-id.cursor c.number.result c.in-Some.row.now (sym c.seek.ensures.value ∙ ap option_copied c.in-Some.is))) in
    let all = c.loop-id.invariant.1 in
    let sought = c.seek.ensures.same ∙ c.loop-id.invariant.0 in
    let fits = c.requires in
    let list1 = c.deref.ensures.value in
    let less = c.decreases in
    let some = c.if-levels-eq0.false in
    let one : c.count_by.result ≡ size (below c.in-Some.row.now.attributes.items) = rw (list1, sought) at c.count_by.ensures.count in
    let first = c.count_by.ensures.same ∙ sought in
    let list2 = c.deref-in-loop-id.ensures.value in
    let two : c.count_by-nodes.result ≡ size (below c.in-Some.row.now.children.items) = rw (list2, first) at c.count_by-nodes.ensures.count in
    (c.count_by-nodes.ensures.same ∙ first, omega arith)
