use Rattle.row_pages.specs.Rows.{with_value}
use Rattle.node_table.proofs.Rows.{written}
use Rattle.std.proofs.Common.{◌∙◌, ap, sym}
use Rattle.std.specs.Option.{option_copied_mut}
use Rattle.node_table.proofs.Rows.{changed, placed, row-there}
use Rattle.node_plans.specs.Splices.{with_list}
use Rattle.node_plans.proofs.splice.set_list.Goals as goal

pub returns-in-Some-clause-changed : goal.returns-in-Some-clause-changed
returns-in-Some-clause-changed c =
    let s = c.set_list_in.new.row in
    rw (← c.number.ensures)
    (changed c.args.rows.now (with_value c.args.rows.now c.number.result s) c.number.result c.in-Some.row.now s (sym c.get_mut.ensures.value ∙ ap option_copied_mut c.in-Some.is) (written c.args.rows.now c.number.result s) (with_list c.args.part c.args.list.items) (sym c.set_list_in.ensures.list))

pub returns-in-Some-clause-places : goal.returns-in-Some-clause-places
returns-in-Some-clause-places c =
    let s = c.set_list_in.new.row in
    placed c.args.rows.now (with_value c.args.rows.now c.number.result s) c.number.result c.in-Some.row.now s (sym c.get_mut.ensures.value ∙ ap option_copied_mut c.in-Some.is) (written c.args.rows.now c.number.result s) c.set_list_in.ensures.place

pub returns-in_default-clause-changed : goal.returns-in_default-clause-changed
returns-in_default-clause-changed c = absurd (row-there c.args.rows.now c.number.result (sym c.get_mut.ensures.value ∙ ap option_copied_mut c.in_default.is) (rw (← c.number.ensures) at c.requires))
