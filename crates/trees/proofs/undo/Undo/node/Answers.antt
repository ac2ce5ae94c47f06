use Rattle.std.proofs.Common.{◌∙◌, ap, sym, refl, option_copied}
use Rattle.data_model.specs.Trees.{find}
use Rattle.node_table.specs.Rows.{entry_of_row}
use Rattle.node_table.proofs.Rows.{row-entry, row-none}
use Rattle.trees.specs.Undo.{UndoTerm}
use Rattle.trees.specs.Settled.{changed_forest}
use Rattle.trees.proofs.Forests.{entry-is}
use Rattle.node_table.proofs.Views.{view-entry, view-none}
use Rattle.trees.proofs.undo.Undo.node.Goals as goal

pub returns-in-Some : goal.returns-in-Some
returns-in-Some c =
    let r = c.in-Some.row.now in
    let at = rw c.number.ensures at (row-entry c.self.inside.parts.rows c.number.result r (sym c.get.ensures ∙ ap option_copied c.in-Some.is)) in
    let entry = entry-is (changed_forest c.self.inside.parts) c.args.self.now.after (ap (λ (u : UndoTerm). u.after) c.self.view_is) c.self.invariant.after c.args.id in
    view-entry _ (entry_of_row r) (find c.args.id c.args.self.now.after.trees) (entry ∙ at) refl c.as_str.ensures.value c.as_str-in-Some.ensures c.parent.ensures c.as_slice.ensures c.as_slice-in-Some.ensures

pub returns-in-None : goal.returns-in-None
returns-in-None c =
    let at = rw c.number.ensures at (row-none c.self.inside.parts.rows c.number.result (sym c.get.ensures ∙ ap option_copied c.in-None.is)) in
    let entry = entry-is (changed_forest c.self.inside.parts) c.args.self.now.after (ap (λ (u : UndoTerm). u.after) c.self.view_is) c.self.invariant.after c.args.id in
    view-none (find c.args.id c.args.self.now.after.trees) (entry ∙ at)
