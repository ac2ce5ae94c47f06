use Rattle.std.proofs.Common.{◌≡◌, ◌∙◌, ap, sym, true, false, Some, None, option_copied, nat_eq}
use Rattle.std.specs.HashSet.{contains}
use Rattle.node_table.specs.Rows.{row_of}
use Rattle.node_plans.proofs.Plans.{row-found, planned-own, planned-gone, planned-kept}
use Rattle.node_plans.proofs.plan.find.Goals as goal

pub returns-in-Some : goal.returns-in-Some
returns-in-Some c =
    sym (planned-own c.args.plan.now (row_of c.args.rows.now) c.args.id c.in-Some.row.now (row-found c.args.plan.now.rows c.number.result c.args.id (Some c.in-Some.row.now) (sym c.get.ensures ∙ ap option_copied c.in-Some.is) c.number.ensures))

pub returns-then-contains : goal.returns-then-contains
returns-then-contains c =
    let none = row-found c.args.plan.now.rows c.number.result c.args.id None (sym c.get.ensures ∙ ap option_copied c.in-None.is) c.number.ensures in
    let gone : contains nat_eq c.args.plan.now.gone c.args.id ≡ true = rw c.number-in-None.ensures at (sym c.contains.ensures ∙ c.if-contains.true) in
    sym (planned-gone c.args.plan.now (row_of c.args.rows.now) c.args.id none gone)

pub returns-else-contains : goal.returns-else-contains
returns-else-contains c =
    let none = row-found c.args.plan.now.rows c.number.result c.args.id None (sym c.get.ensures ∙ ap option_copied c.in-None.is) c.number.ensures in
    let stays : contains nat_eq c.args.plan.now.gone c.args.id ≡ false = rw c.number-in-None.ensures at (sym c.contains.ensures ∙ c.if-contains.false) in
    let read = row-found c.args.rows.now c.number-else-contains.result c.args.id (option_copied c.get-else-contains.result) (sym c.get-else-contains.ensures) c.number-else-contains.ensures in
    sym (planned-kept c.args.plan.now (row_of c.args.rows.now) c.args.id none stays ∙ read)
