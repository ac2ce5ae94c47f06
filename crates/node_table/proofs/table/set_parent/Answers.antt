use Rattle.row_pages.specs.Rows.{with_value}
use Rattle.std.proofs.Common.{◌∙◌, ap, sym, refl}
use Rattle.std.specs.Option.{option_copied_mut}
use Rattle.node_table.specs.declared.table.Row.{Row}
use Rattle.node_table.specs.Flat.{with_parent}
use Rattle.node_table.specs.Rows.{entry_of_row}
use Rattle.node_table.proofs.Rows.{written, changed, placed, row-there, room-as-it-was}
use Rattle.node_table.proofs.table.set_parent.Goals as goal

pub returns-in-Some-clause-changed : goal.returns-in-Some-clause-changed
returns-in-Some-clause-changed c =
    let r = c.in-Some.row.now in
    let s : Row = record r { has_parent = c.as_in_row.result.0; parent = c.as_in_row.result.1 } in
    rw (← c.number.ensures)
    (changed c.args.rows.now (with_value c.args.rows.now c.number.result s) c.number.result r s (sym c.get_mut.ensures.value ∙ ap option_copied_mut c.in-Some.is) (written c.args.rows.now c.number.result s) (with_parent c.args.parent) (ap (λ p. with_parent p (entry_of_row r)) (sym c.as_in_row.ensures)))

pub returns-in_default-clause-changed : goal.returns-in_default-clause-changed
returns-in_default-clause-changed c = absurd (row-there c.args.rows.now c.number.result (sym c.get_mut.ensures.value ∙ ap option_copied_mut c.in_default.is) (rw (← c.number.ensures) at c.requires))

pub returns-in-Some-clause-room : goal.returns-in-Some-clause-room
returns-in-Some-clause-room c = λ part i n h.
    (let r = c.in-Some.row.now in
    let s : Row = record r { has_parent = c.as_in_row.result.0; parent = c.as_in_row.result.1 } in
    room-as-it-was c.args.rows.now (with_value c.args.rows.now c.number.result s) c.number.result r s (sym c.get_mut.ensures.value ∙ ap option_copied_mut c.in-Some.is) (written c.args.rows.now c.number.result s) refl refl part i n h)

pub returns-in_default-clause-room : goal.returns-in_default-clause-room
returns-in_default-clause-room c = λ part i n h. absurd (row-there c.args.rows.now c.number.result (sym c.get_mut.ensures.value ∙ ap option_copied_mut c.in_default.is) (rw (← c.number.ensures) at c.requires))

pub returns-in-Some-clause-places : goal.returns-in-Some-clause-places
returns-in-Some-clause-places c =
    let r = c.in-Some.row.now in
    let s : Row = record r { has_parent = c.as_in_row.result.0; parent = c.as_in_row.result.1 } in
    placed c.args.rows.now (with_value c.args.rows.now c.number.result s) c.number.result r s (sym c.get_mut.ensures.value ∙ ap option_copied_mut c.in-Some.is) (written c.args.rows.now c.number.result s) refl
