use Rattle.std.proofs.Common.{◌∙◌, ap, sym, refl, Some, None, is_some, option_copied}
use Rattle.row_pages.specs.Rows.{get}
use Rattle.node_table.proofs.Clones.{row-clone}
use Rattle.node_plans.proofs.Plans.{row-found, not-some, copied-table, copied-places, table-unchanged, places-unchanged, planned-none, row-put, kept-put, kept-same}
use Rattle.node_plans.proofs.plan.touch.Goals as goal

pub returns-then-contains_key-clause-there : goal.returns-then-contains_key-clause-there
returns-then-contains_key-clause-there c =
    ap is_some (row-found c.args.plan.now.rows c.number.result c.args.id _ refl c.number.ensures) ∙ sym c.contains_key.ensures ∙ c.if-contains_key.true

pub returns-in_default-clause-there : goal.returns-in_default-clause-there
returns-in_default-clause-there c =
    let none = row-found c.args.plan.now.rows c.number.result c.args.id None (not-some (get c.args.plan.now.rows c.number.result) (sym c.contains_key.ensures ∙ c.if-contains_key.false)) c.number.ensures in
    let absent = row-found c.args.rows.now c.number-2.result c.args.id None (sym c.get.ensures ∙ ap option_copied c.in_default.is) c.number-2.ensures in
    absurd (planned-none c.args.plan.now c.args.rows.now c.args.id none absent c.requires)

pub returns-in_err-insert-clause-same : goal.returns-in_err-insert-clause-same
returns-in_err-insert-clause-same c = table-unchanged c.args.plan.now (record c.args.plan.now { rows = c.insert.new.self }) c.args.rows.now c.in_err-insert.ensures.refused refl

pub returns-in_err-insert-clause-places : goal.returns-in_err-insert-clause-places
returns-in_err-insert-clause-places c = places-unchanged c.args.plan.now (record c.args.plan.now { rows = c.insert.new.self }) c.args.rows.now c.in_err-insert.ensures.refused refl

pub returns-clause-same : goal.returns-clause-same
returns-clause-same c =
    let none = row-found c.args.plan.now.rows c.number.result c.args.id None (not-some (get c.args.plan.now.rows c.number.result) (sym c.contains_key.ensures ∙ c.if-contains_key.false)) c.number.ensures in
    let at = row-found c.args.rows.now c.number-2.result c.args.id (Some c.in-Some.row.now) (sym c.get.ensures ∙ ap option_copied c.in-Some.is) c.number-2.ensures in
    let u = rw c.number-3.ensures at c.in_ok-insert.ensures.put in
    copied-table c.args.plan.now (record c.args.plan.now { rows = c.insert.new.self }) c.args.rows.now c.args.id c.in-Some.row.now c.in_ok-row.row none at c.requires (row-clone c.in-Some.row.now c.in_ok-row.row c.in_ok-row.ensures.cases) refl u

pub returns-clause-places : goal.returns-clause-places
returns-clause-places c =
    let none = row-found c.args.plan.now.rows c.number.result c.args.id None (not-some (get c.args.plan.now.rows c.number.result) (sym c.contains_key.ensures ∙ c.if-contains_key.false)) c.number.ensures in
    let at = row-found c.args.rows.now c.number-2.result c.args.id (Some c.in-Some.row.now) (sym c.get.ensures ∙ ap option_copied c.in-Some.is) c.number-2.ensures in
    let u = rw c.number-3.ensures at c.in_ok-insert.ensures.put in
    copied-places c.args.plan.now (record c.args.plan.now { rows = c.insert.new.self }) c.args.rows.now c.args.id c.in-Some.row.now c.in_ok-row.row none at c.requires c.in_ok-row.ensures.cases.1.1.1.1.0 refl u

pub returns-clause-there : goal.returns-clause-there
returns-clause-there c = ap is_some (row-put c.args.plan.now.rows c.insert.new.self c.args.id c.in_ok-row.row (rw c.number-3.ensures at c.in_ok-insert.ensures.put))

pub returns-in_err-insert-clause-kept : goal.returns-in_err-insert-clause-kept
returns-in_err-insert-clause-kept c = kept-same c.args.plan.now.rows c.insert.new.self c.in_err-insert.ensures.refused

pub returns-clause-kept : goal.returns-clause-kept
returns-clause-kept c = kept-put c.args.plan.now.rows c.insert.new.self c.number-3.result c.in_ok-row.row c.in_ok-insert.ensures.put
