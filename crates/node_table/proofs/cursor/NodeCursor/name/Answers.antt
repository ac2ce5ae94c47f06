use Rattle.std.proofs.Common.{◌∙◌, ap, sym, refl, option_copied}
use Rattle.data_model.specs.Trees.{find}
use Rattle.node_table.specs.Rows.{entry_of_row}
use Rattle.node_table.proofs.Rows.{row-entry, row-none}
use Rattle.node_table.proofs.Views.{cursor-entry, name-entry, name-none}
use Rattle.node_table.proofs.cursor.NodeCursor.name.Goals as goal

pub returns-clause-named : goal.returns-clause-named
returns-clause-named c =
    let a = c.self.inside in
    let r = c.in-Some.row.now in
    let at = rw c.number.ensures at (row-entry a.rows c.number.result r (sym c.seek.ensures.value ∙ ap option_copied c.in-Some.is)) in
    name-entry (record { kind = r.kind; name = c.as_str.result }) (entry_of_row r) (find c.args.id c.args.self.now) (cursor-entry a.rows a.next c.args.self.now c.self.view_is c.self.invariant c.args.id ∙ at) refl c.as_str.ensures.value

pub returns-in_default-clause-named : goal.returns-in_default-clause-named
returns-in_default-clause-named c =
    let a = c.self.inside in
    let at = rw c.number.ensures at (row-none a.rows c.number.result (sym c.seek.ensures.value ∙ ap option_copied c.in_default.is)) in
    name-none (find c.args.id c.args.self.now) (cursor-entry a.rows a.next c.args.self.now c.self.view_is c.self.invariant c.args.id ∙ at)
