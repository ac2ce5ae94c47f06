use Rattle.std.proofs.Common.{ap, sym, ◌∙◌, option_copied}
use Rattle.node_table.proofs.Rows.{place-some, place-none}
use Rattle.node_table.proofs.order.place.Goals as goal

pub returns-in-Some : goal.returns-in-Some
returns-in-Some c = sym (rw c.number.ensures at (place-some c.args.rows.now c.number.result c.in-Some.row.now (sym c.get.ensures ∙ ap option_copied c.in-Some.is)))

pub returns-in-None : goal.returns-in-None
returns-in-None c = c.number-in-None.ensures ∙ sym (rw c.number.ensures at (place-none c.args.rows.now c.number.result (sym c.get.ensures ∙ ap option_copied c.in-None.is)))
