use Rattle.std.proofs.Common.{◌∙◌, ap, sym, refl, option_copied}
use Rattle.data_model.specs.Trees.{find}
use Rattle.node_table.specs.Rows.{entry_of_row}
use Rattle.trees.proofs.Forests.{entry-is}
use Rattle.node_table.proofs.Rows.{row-entry, row-none}
use Rattle.node_table.proofs.Views.{view-entry, view-none}
use Rattle.trees.proofs.forest.Forest.node.Goals as goal

pub returns-in-Some : goal.returns-in-Some
returns-in-Some c =
    let a = c.self.inside in
    let r = c.in-Some.row.now in
    let at = rw c.number.ensures at (row-entry a.rows c.number.result r (sym c.get.ensures ∙ ap option_copied c.in-Some.is)) in
    view-entry _ (entry_of_row r) (find c.args.id c.args.self.now.trees) (entry-is a c.args.self.now c.self.view_is c.self.invariant c.args.id ∙ at) refl c.as_str.ensures.value c.as_str-in-Some.ensures c.parent.ensures c.as_slice.ensures c.as_slice-in-Some.ensures

pub returns-in-None : goal.returns-in-None
returns-in-None c =
    let a = c.self.inside in
    let at = rw c.number.ensures at (row-none a.rows c.number.result (sym c.get.ensures ∙ ap option_copied c.in-None.is)) in
    view-none (find c.args.id c.args.self.now.trees) (entry-is a c.args.self.now c.self.view_is c.self.invariant c.args.id ∙ at)
