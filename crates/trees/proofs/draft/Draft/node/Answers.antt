use Rattle.std.proofs.Common.{◌∙◌, ap, sym, refl, option_map}
use Rattle.data_model.specs.Trees.{find}
use Rattle.node_table.specs.Rows.{entry_of_row}
use Rattle.node_table.specs.declared.table.Row.{Row}
use Rattle.std.proofs.Common.{Some, None, Bor}
use Rattle.trees.proofs.Drafts.{row-is}
use Rattle.node_table.proofs.Views.{view-entry, view-none}
use Rattle.trees.proofs.draft.Draft.node.Goals as goal

pub returns-in-Some : goal.returns-in-Some
returns-in-Some c =
    let r = c.in-Some.row.now in
    let at = row-is c.self.inside.parts c.args.self.now c.self.view_is c.self.invariant c.args.id (Some r) (sym (ap (option_map (λ (x : Bor Row). x.now)) c.in-Some.is) ∙ c.find.ensures) in
    view-entry _ (entry_of_row r) (find c.args.id c.args.self.now.after) at refl c.as_str.ensures.value c.as_str-in-Some.ensures c.parent.ensures c.as_slice.ensures c.as_slice-in-Some.ensures

pub returns-in-None : goal.returns-in-None
returns-in-None c =
    let at = row-is c.self.inside.parts c.args.self.now c.self.view_is c.self.invariant c.args.id None (sym (ap (option_map (λ (x : Bor Row). x.now)) c.in-None.is) ∙ c.find.ensures) in
    view-none (find c.args.id c.args.self.now.after) at
