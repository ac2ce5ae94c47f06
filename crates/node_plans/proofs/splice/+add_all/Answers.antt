use Rattle.std.proofs.Common.{◌∙◌, ◌-◌, ap, sym, arith, option_map, Some, None, Bor}
use Rattle.std.specs.List.{sum_by}
use Rattle.std.proofs.lemmas.List.Sums.{sum_by_push}
use Rattle.node_table.specs.Flat.{read_trees}
use Rattle.node_table.specs.Rows.{entry_of_row}
use Rattle.node_table.specs.declared.table.Row.{Row}
use Rattle.node_plans.specs.Planned.{table_with}
use Rattle.node_plans.proofs.Plans.{entry-with}
use Rattle.node_plans.proofs.Items.{read-turn, read-stop}
use Rattle.node_plans.proofs.splice.+add_all.Goals as goal

pub returns-in_default : goal.returns-in_default
returns-in_default t c = λ w.
    (let f = table_with c.args.plan.now c.args.rows.now in
    let at = entry-with c.args.plan.now c.args.rows.now c.id-item.result None (sym (ap (option_map (λ (x : Bor Row). x.now)) c.in_default.is) ∙ c.find.ensures) in
    let stop = read-stop f (read_trees (c.args.levels - 1) f) c.args.ids.now c.loop-id.id-index c.id-item.result w c.loop-id-test.true c.id-item.is at in
    let i = c.loop-id.invariant w in
    omega arith)

pub loop-id-preserved : goal.loop-id-preserved
loop-id-preserved t c = λ w.
    (let f = table_with c.args.plan.now c.args.rows.now in
    let r = c.in-Some.row.now in
    let at = entry-with c.args.plan.now c.args.rows.now c.id-item.result (Some r) (sym (ap (option_map (λ (x : Bor Row). x.now)) c.in-Some.is) ∙ c.find.ensures) in
    let turn = read-turn f (read_trees (c.args.levels - 1) f) c.args.ids.now c.loop-id.id-index c.id-item.result (entry_of_row r) w c.loop-id-test.true c.id-item.is at in
    let pushed = ap (sum_by w) c.in_ok-push.ensures.items ∙ sum_by_push w c.loop-id.found.items c.id-item.result in
    let one = rw c.deref.ensures.value at (c.in_ok-add_all.ensures w) in
    let two = rw c.deref-in-loop-id.ensures.value at (c.in_ok-add_all-2.ensures w) in
    let i = c.loop-id.invariant w in
    omega arith)
