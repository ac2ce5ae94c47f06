use Rattle.std.proofs.Common.{◌∙◌, ap, sym, option_map, Some, None, Bor, is_some}
use Rattle.data_model.specs.Trees.{find}
use Rattle.node_table.specs.Rows.{entry_of_row}
use Rattle.node_table.specs.declared.table.Row.{Row}
use Rattle.node_table.proofs.Entries.{parent-in, is_some-entry}
use Rattle.trees.proofs.Drafts.{row-is}
use Rattle.trees.proofs.draft.Draft.parent.Goals as goal

pub returns-in-Some : goal.returns-in-Some
returns-in-Some c =
    let r = c.in-Some.row.now in
    let at = row-is c.self.inside.parts c.args.self.now c.self.view_is c.self.invariant c.args.id (Some r) (sym (ap (option_map (λ (x : Bor Row). x.now)) c.in-Some.is) ∙ c.find.ensures) in
    c.parent.ensures ∙ sym (parent-in c.args.id c.args.self.now.after (entry_of_row r) at)

pub returns-in-None : goal.returns-in-None
returns-in-None c =
    let at = row-is c.self.inside.parts c.args.self.now c.self.view_is c.self.invariant c.args.id None (sym (ap (option_map (λ (x : Bor Row). x.now)) c.in-None.is) ∙ c.find.ensures) in
    let z = sym (is_some-entry (find c.args.id c.args.self.now.after)) ∙ ap is_some at in
    let there = c.requires in
    cc
