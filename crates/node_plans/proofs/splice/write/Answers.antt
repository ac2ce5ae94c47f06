use Rattle.std.proofs.Common.{◌∙◌, ap, refl, is_some}
use Rattle.data_model.specs.Tree.{all_of}
use Rattle.node_table.specs.Flat.{Table}
use Rattle.node_plans.specs.declared.plan.Plan.{Plan}
use Rattle.node_table.proofs.Rows.{on_err, table-row}
use Rattle.node_plans.specs.Planned.{table_with}
use Rattle.node_plans.proofs.Plans.{row-there}
use Rattle.node_plans.proofs.Writes.{same-table, same-places, no-planned, there-apart, writes}
use Rattle.node_plans.proofs.splice.write.Goals as goal

pub returns-in_err-reserve-clause-refused : goal.returns-in_err-reserve-clause-refused
returns-in_err-reserve-clause-refused c = on_err c.from_residual-in_err-reserve.result _ (same-table c.touch.new.plan (record c.touch.new.plan { gone = c.reserve.new.self }) c.args.rows.now refl c.reserve.ensures.keys.2 ∙ c.touch.ensures.same)

pub returns-in_err-reserve-clause-places : goal.returns-in_err-reserve-clause-places
returns-in_err-reserve-clause-places c = on_err c.from_residual-in_err-reserve.result _ (same-places c.touch.new.plan (record c.touch.new.plan { gone = c.reserve.new.self }) c.args.rows.now refl c.reserve.ensures.keys.2 ∙ c.touch.ensures.places)

pub plant_rows-requires-clause-fresh : goal.plant_rows-requires-clause-fresh
plant_rows-requires-clause-fresh c = λ i l. no-planned c.touch.new.plan c.args.rows.now i (ap (λ (f : Table). f i) c.touch.ensures.same ∙ c.requires.fresh i l)

pub returns-in_err-plant_rows-clause-refused : goal.returns-in_err-plant_rows-clause-refused
returns-in_err-plant_rows-clause-refused c = on_err c.from_residual-in_err-plant_rows.result _ (same-table c.touch.new.plan (record { rows = c.plant_rows.new.rows; gone = c.reserve.new.self }) c.args.rows.now c.in_err-plant_rows.ensures.refused c.reserve.ensures.keys.2 ∙ c.touch.ensures.same)

pub returns-in_err-plant_rows-clause-places : goal.returns-in_err-plant_rows-clause-places
returns-in_err-plant_rows-clause-places c = on_err c.from_residual-in_err-plant_rows.result _ (same-places c.touch.new.plan (record { rows = c.plant_rows.new.rows; gone = c.reserve.new.self }) c.args.rows.now c.in_err-plant_rows.ensures.refused c.reserve.ensures.keys.2 ∙ c.touch.ensures.places)

pub set_list-requires : goal.set_list-requires
set_list-requires c =
    let none = there-apart (table_with c.args.plan.now c.args.rows.now) c.args.span.parent (all_of c.args.trees.now) c.requires.has c.requires.fresh in
    ap is_some (table-row c.touch.new.plan.rows c.plant_rows.new.rows c.args.span.parent (c.plant_rows.ensures.others c.args.span.parent none)) ∙ row-there c.touch.new.plan.rows c.args.span.parent ∙ c.in_ok-touch.ensures.there

pub returns-clause-written : goal.returns-clause-written
returns-clause-written c =
    let p4 : Plan = record { rows = c.set_list.new.rows; gone = c.reserve.new.self } in
    writes c.args.plan.now c.touch.new.plan p4 c.hide_all.new.plan c.plant_rows.new.rows c.args.rows.now c.args.span.part c.args.span.parent c.args.outline.first c.args.outline.list.items c.args.outline.gone.items (all_of c.args.trees.now) c.touch.ensures.same c.touch.ensures.places c.in_ok-touch.ensures.there
    c.in_ok-plant_rows.ensures.planted c.in_ok-plant_rows.ensures.ranked c.plant_rows.ensures.others c.set_list.ensures.changed c.set_list.ensures.places c.reserve.ensures.keys.2
    (rw c.deref.ensures.value at c.hide_all.ensures.gone) (rw c.deref.ensures.value at c.hide_all.ensures.kept) c.requires.has c.requires.stays c.requires.fresh c.requires.apart
