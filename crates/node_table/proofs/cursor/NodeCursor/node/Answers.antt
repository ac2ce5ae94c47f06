use Rattle.std.proofs.Common.{◌∙◌, ap, sym, refl, option_copied}
use Rattle.data_model.specs.Trees.{find}
use Rattle.node_table.specs.Rows.{entry_of_row}
use Rattle.node_table.proofs.Rows.{row-entry, row-none}
use Rattle.node_table.proofs.Views.{cursor-entry, view-entry, view-none}
use Rattle.node_table.proofs.cursor.NodeCursor.node.Goals as goal

pub returns-clause-node : goal.returns-clause-node
returns-clause-node c =
    let a = c.self.inside in
    let r = c.in-Some.row.now in
    let at = rw c.number.ensures at (row-entry a.rows c.number.result r (sym c.seek.ensures.value ∙ ap option_copied c.in-Some.is)) in
    view-entry _ (entry_of_row r) (find c.args.id c.args.self.now) (cursor-entry a.rows a.next c.args.self.now c.self.view_is c.self.invariant c.args.id ∙ at) refl c.as_str.ensures.value c.as_str-2.ensures c.parent.ensures c.as_slice.ensures c.as_slice-2.ensures

pub returns-in_default-clause-node : goal.returns-in_default-clause-node
returns-in_default-clause-node c =
    let a = c.self.inside in
    let at = rw c.number.ensures at (row-none a.rows c.number.result (sym c.seek.ensures.value ∙ ap option_copied c.in_default.is)) in
    view-none (find c.args.id c.args.self.now) (cursor-entry a.rows a.next c.args.self.now c.self.view_is c.self.invariant c.args.id ∙ at)
