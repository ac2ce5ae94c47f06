use Rattle.std.proofs.Common.{◌≡◌, ◌-◌, length, ap, sym, ◌∙◌, option_copied, arith, ◌≤◌}
use Rattle.std.proofs.lemmas.List.{drop_all}
use Rattle.data_model.specs.Trees.{no_trees, tree}
use Rattle.data_model.specs.Tree.{all_of, trees_of_tree}
use Rattle.node_table.specs.Flat.{read_trees, content_of}
use Rattle.node_table.specs.Rows.{table_of, entry_of_row}
use Rattle.data_model.proofs.Weights.{append-none}
use Rattle.node_table.proofs.Nests.{tree-turn, tree-stop}
use Rattle.node_table.proofs.Rows.{row-entry, row-none}
use Rattle.node_table.proofs.tree.+trees_by.Goals as goal

pub returns-in_default-clause-trees : goal.returns-in_default-clause-trees
returns-in_default-clause-trees t c =
    let f = table_of c.args.cursor.now in
    tree-stop f (read_trees (c.args.levels - 1) f) c.args.ids.now c.loop-id.id-index c.id-item.result c.loop-id.trees.items _ c.loop-id-test.true c.id-item.is
    (rw (c.number.ensures, c.loop-id.invariant.0) at (row-none c.loop-id.cursor c.number.result (sym c.seek.ensures.value ∙ ap option_copied c.in_default.is))) c.loop-id.invariant.1

pub returns-clause-trees : goal.returns-clause-trees
returns-clause-trees t c =
    let end : length c.args.ids.now ≤ c.loop-id.id-index = omega arith in
    let whole = rw (drop_all c.loop-id.id-index c.args.ids.now end) at c.loop-id.invariant.1 in
    sym (append-none _) ∙ whole

pub loop-id-preserved : goal.loop-id-preserved
loop-id-preserved t c =
    let f = table_of c.args.cursor.now in
    let e = entry_of_row c.in-Some.row.now in
    let below = read_trees (c.args.levels - 1) f in
    let before = c.loop-id.invariant.0 in
    let sought = c.seek.ensures.same ∙ before in
    let first = c.trees_by.ensures.same ∙ sought in
    let at = rw (c.number.ensures, before) at (row-entry c.loop-id.cursor c.number.result c.in-Some.row.now (sym c.seek.ensures.value ∙ ap option_copied c.in-Some.is)) in
    let name : c.in_ok-of.field-0 ≡ e.name = c.in_ok-of.ensures ∙ c.as_str.ensures.value in
    let text : c.in_ok-clone.field-0 ≡ e.text = c.in_ok-clone.ensures.cases in
    let bs : all_of c.in_ok-attributes.attributes.items ≡ below e.attributes = rw sought at c.in_ok-attributes.ensures.trees ∙ ap below c.deref.ensures.value in
    let cs : all_of c.in_ok-children.children.items ≡ below e.children = rw first at c.in_ok-children.ensures.trees ∙ ap below c.deref-in-loop-id.ensures.value in
    let is : trees_of_tree c.new.result ≡ tree (content_of c.id-item.result e) (below e.attributes) (below e.children) no_trees =
    ap trees_of_tree c.new.ensures ∙ (λ i. tree (record { identity = c.id-item.result; kind = e.kind; name = name i; text = text i }) (bs i) (cs i) no_trees) in
    (c.trees_by-in-loop-id.ensures.same ∙ first, rw c.in_ok-push.ensures.items (tree-turn f below c.args.ids.now c.loop-id.id-index c.id-item.result e c.loop-id.trees.items c.new.result _ c.loop-id-test.true c.id-item.is at is c.loop-id.invariant.1))
