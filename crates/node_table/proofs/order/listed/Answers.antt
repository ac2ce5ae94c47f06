use Rattle.std.proofs.Common.{Some, ◌≡◌, ◌+◌, ◌-◌, length, ap, sym, ◌∙◌, arith, option_copied}
use Rattle.std.specs.List.{slice_get}
use Rattle.node_table.specs.Rows.{entry_of_row}
use Rattle.node_table.specs.Labels.{lists_in}
use Rattle.node_table.proofs.Rows.{row-entry, row-none}
use Rattle.node_table.proofs.Numbers.{get-left, get-right}
use Rattle.node_table.proofs.order.listed.Goals as goal

pub returns-then-at-attributes : goal.returns-then-at-attributes
returns-then-at-attributes c =
    let r = c.in-Some.row.now in
    let at = rw c.number.ensures at (row-entry c.args.rows.now c.number.result c.in-Some.row.now (sym c.get.ensures ∙ ap option_copied c.in-Some.is)) in
    let len = c.len-attributes.ensures in
    let less = c.if-at-attributes.true in
    c.item.ensures ∙ ap (λ l. slice_get l c.args.at) c.deref.ensures.value ∙ sym (ap (λ o. slice_get (lists_in o) c.args.at) at ∙ get-left r.attributes.items r.children.items c.args.at (omega arith))

pub returns-else-at-attributes : goal.returns-else-at-attributes
returns-else-at-attributes c =
    let r = c.in-Some.row.now in
    let at = rw c.number.ensures at (row-entry c.args.rows.now c.number.result c.in-Some.row.now (sym c.get.ensures ∙ ap option_copied c.in-Some.is)) in
    let len = c.len-attributes.ensures in
    let more = c.if-at-attributes.false in
    let left = c.args.at - c.len-attributes.result in
    let whole : c.args.at ≡ length r.attributes.items + left = omega arith in
    c.item-else-at-attributes.ensures ∙ ap (λ l. slice_get l left) c.deref-else-at-attributes.ensures.value
    ∙ sym (ap (λ o. slice_get (lists_in o) c.args.at) at ∙ ap (slice_get (lists_in (Some (entry_of_row r)))) whole ∙ get-right r.attributes.items r.children.items left)

pub returns-in-None : goal.returns-in-None
returns-in-None c = sym (ap (λ o. slice_get (lists_in o) c.args.at) (rw c.number.ensures at (row-none c.args.rows.now c.number.result (sym c.get.ensures ∙ ap option_copied c.in-None.is))))
