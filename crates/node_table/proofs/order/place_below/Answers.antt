use Rattle.std.proofs.Common.{ap, sym, ◌∙◌, option_copied}
use Rattle.node_table.specs.Labels.{parent_in}
use Rattle.node_table.proofs.Rows.{row-entry, row-none, place-some}
use Rattle.node_table.proofs.Rising.{none-either}
use Rattle.node_table.proofs.order.place_below.Goals as goal

pub returns-clause-parent : goal.returns-clause-parent
returns-clause-parent c =
    let at = rw c.number.ensures at (row-entry c.args.rows.now c.number.result c.in_ok-row.row.now (sym c.seek.ensures.value ∙ ap option_copied c.in_ok-row.was)) in
    ap parent_in at ∙ sym c.parent.ensures ∙ c.in_ok-parent.was

pub returns-clause-place : goal.returns-clause-place
returns-clause-place c = sym (rw c.number.ensures at (place-some c.args.rows.now c.number.result c.in_ok-row.row.now (sym c.seek.ensures.value ∙ ap option_copied c.in_ok-row.was)))

pub returns-in_err-row-clause-none : goal.returns-in_err-row-clause-none
returns-in_err-row-clause-none c = none-either c.from_residual.result (ap parent_in (rw c.number.ensures at (row-none c.args.rows.now c.number.result (sym c.seek.ensures.value ∙ ap option_copied c.in_err-row.was))))

pub returns-in_err-parent-clause-none : goal.returns-in_err-parent-clause-none
returns-in_err-parent-clause-none c =
    let at = rw c.number.ensures at (row-entry c.args.rows.now c.number.result c.in_ok-row.row.now (sym c.seek.ensures.value ∙ ap option_copied c.in_ok-row.was)) in
    none-either c.from_residual-in_err-parent.result (ap parent_in at ∙ sym c.parent.ensures ∙ c.in_err-parent.was)
