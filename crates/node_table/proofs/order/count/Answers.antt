use Rattle.std.proofs.Common.{◌≡◌, ◌+◌, length, ap, sym, ◌∙◌, arith, option_copied}
use Rattle.std.proofs.lemmas.List.{length-append}
use Rattle.node_table.specs.Rows.{table_of}
use Rattle.node_table.specs.Labels.{lists_in}
use Rattle.node_table.proofs.Rows.{row-entry, row-none}
use Rattle.node_table.proofs.order.count.Goals as goal

sum : (c : goal.After-len-in-Some) → c.len.result + c.len-in-Some.result ≡ length (lists_in (table_of c.args.rows.now c.args.id))
sum c =
    let r = c.in-Some.row.now in
    let at = rw c.number.ensures at (row-entry c.args.rows.now c.number.result c.in-Some.row.now (sym c.get.ensures ∙ ap option_copied c.in-Some.is)) in
    let la = c.len.ensures in
    let lb = c.len-in-Some.ensures in
    let both : length (lists_in (table_of c.args.rows.now c.args.id)) ≡ length r.attributes.items + length r.children.items = ap (λ o. length (lists_in o)) at ∙ length-append r.attributes.items r.children.items in
    omega arith

pub overflow_add-result : goal.overflow_add-result
overflow_add-result c = let all = sum c in let few = c.requires.few in omega arith

pub returns-in-Some : goal.returns-in-Some
returns-in-Some c = sum c

pub returns-in-None : goal.returns-in-None
returns-in-None c = sym (ap (λ o. length (lists_in o)) (rw c.number.ensures at (row-none c.args.rows.now c.number.result (sym c.get.ensures ∙ ap option_copied c.in-None.is))))
