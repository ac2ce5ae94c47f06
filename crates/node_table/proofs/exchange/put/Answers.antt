use Rattle.std.proofs.Common.{◌∙◌, ap, sym, Option}
use Rattle.node_table.specs.declared.table.Row.{Row}
use Rattle.node_table.specs.Rows.{row_of}
use Rattle.node_table.specs.Plans.{changed}
use Rattle.node_table.proofs.Plans.{rows-changed, row-at}
use Rattle.node_table.proofs.exchange.put.Goals as goal

pub returns-in-Some-clause-was : goal.returns-in-Some-clause-was
returns-in-Some-clause-was c = rw c.number.ensures at (c.put.ensures.was ∙ row-at c.args.rows.now c.number.result)

pub returns-in-Some-clause-rows : goal.returns-in-Some-clause-rows
returns-in-Some-clause-rows c =
    let put = rows-changed c.args.rows.now c.put.new.self c.number.result _ c.put.ensures.put in
    rw c.number.ensures at put ∙ ap (λ (o : Option Row). changed c.args.id o (row_of c.args.rows.now)) (sym c.in-Some.is)

pub returns-in-None-clause-was : goal.returns-in-None-clause-was
returns-in-None-clause-was c = rw c.number-in-None.ensures at (c.remove.ensures.was ∙ row-at c.args.rows.now c.number-in-None.result)

pub returns-in-None-clause-rows : goal.returns-in-None-clause-rows
returns-in-None-clause-rows c =
    let taken = rows-changed c.args.rows.now c.remove.new.self c.number-in-None.result _ c.remove.ensures.removed in
    rw c.number-in-None.ensures at taken ∙ ap (λ (o : Option Row). changed c.args.id o (row_of c.args.rows.now)) (sym c.in-None.is)
