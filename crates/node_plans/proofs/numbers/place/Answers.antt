use Rattle.std.proofs.Common.{◌∙◌, ap, sym, option_map, Some, None, Bor}
use Rattle.node_table.specs.declared.table.Row.{Row}
use Rattle.node_plans.proofs.Plans.{place-with}
use Rattle.node_plans.proofs.numbers.place.Goals as goal

pub returns-in-Some : goal.returns-in-Some
returns-in-Some c = place-with c.args.plan.now c.args.rows.now c.args.id (Some c.in-Some.row.now) (sym (ap (option_map (λ (x : Bor Row). x.now)) c.in-Some.is) ∙ c.find.ensures)

pub returns-in-None : goal.returns-in-None
returns-in-None c = c.number.ensures ∙ place-with c.args.plan.now c.args.rows.now c.args.id None (sym (ap (option_map (λ (x : Bor Row). x.now)) c.in-None.is) ∙ c.find.ensures)
