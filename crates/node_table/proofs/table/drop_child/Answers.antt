use Rattle.row_pages.specs.Rows.{with_value}
use Rattle.std.proofs.Common.{◌∙◌, ap, sym}
use Rattle.std.specs.Option.{option_copied_mut}
use Rattle.node_table.specs.Flat.{without_child}
use Rattle.node_table.specs.Rows.{entry_of_row}
use Rattle.node_table.proofs.Rows.{written, changed, placed, row-there, row-entry}
use Rattle.node_table.proofs.table.drop_child.Goals as goal

pub remove_below-requires : goal.remove_below-requires
remove_below-requires c = c.requires.once (entry_of_row c.in-Some.row.now) (rw c.number.ensures at (row-entry c.args.rows.now c.number.result c.in-Some.row.now (sym c.get_mut.ensures.value ∙ ap option_copied_mut c.in-Some.is)))

pub returns-in-Some-clause-changed : goal.returns-in-Some-clause-changed
returns-in-Some-clause-changed c =
    let s = c.remove_below.new.row in
    rw (← c.number.ensures)
    (changed c.args.rows.now (with_value c.args.rows.now c.number.result s) c.number.result c.in-Some.row.now s (sym c.get_mut.ensures.value ∙ ap option_copied_mut c.in-Some.is) (written c.args.rows.now c.number.result s) (without_child c.args.child) (sym c.remove_below.ensures.lists))

pub returns-in_default-clause-changed : goal.returns-in_default-clause-changed
returns-in_default-clause-changed c = absurd (row-there c.args.rows.now c.number.result (sym c.get_mut.ensures.value ∙ ap option_copied_mut c.in_default.is) (rw (← c.number.ensures) at c.requires.there))

pub returns-in-Some-clause-places : goal.returns-in-Some-clause-places
returns-in-Some-clause-places c =
    let s = c.remove_below.new.row in
    placed c.args.rows.now (with_value c.args.rows.now c.number.result s) c.number.result c.in-Some.row.now s (sym c.get_mut.ensures.value ∙ ap option_copied_mut c.in-Some.is) (written c.args.rows.now c.number.result s) c.remove_below.ensures.place
