use Rattle.row_pages.specs.Rows.{with_value}
use Rattle.std.proofs.Common.{◌∙◌, ap, sym, refl}
use Rattle.std.specs.Option.{option_copied_mut}
use Rattle.node_table.specs.declared.table.Row.{Row}
use Rattle.node_table.specs.Flat.{with_text}
use Rattle.node_table.proofs.Rows.{written, changed, placed, row-there}
use Rattle.node_table.proofs.table.set_text.Goals as goal

pub returns-in-Some-clause-changed : goal.returns-in-Some-clause-changed
returns-in-Some-clause-changed c =
    let r = c.in-Some.row.now in
    let s : Row = record r { text = c.args.text } in
    rw (← c.number.ensures)
    (changed c.args.rows.now (with_value c.args.rows.now c.number.result s) c.number.result r s (sym c.get_mut.ensures.value ∙ ap option_copied_mut c.in-Some.is) (written c.args.rows.now c.number.result s) (with_text c.args.text) refl)

pub returns-in_default-clause-changed : goal.returns-in_default-clause-changed
returns-in_default-clause-changed c = absurd (row-there c.args.rows.now c.number.result (sym c.get_mut.ensures.value ∙ ap option_copied_mut c.in_default.is) (rw (← c.number.ensures) at c.requires))

pub returns-in-Some-clause-places : goal.returns-in-Some-clause-places
returns-in-Some-clause-places c =
    let r = c.in-Some.row.now in
    let s : Row = record r { text = c.args.text } in
    placed c.args.rows.now (with_value c.args.rows.now c.number.result s) c.number.result r s (sym c.get_mut.ensures.value ∙ ap option_copied_mut c.in-Some.is) (written c.args.rows.now c.number.result s) refl
