use Rattle.std.proofs.Common.{ℕ, None, refl, ◌≡◌, ◌+◌, length, ap, sym, ◌∙◌, arith, option_copied}
use Rattle.data_model.specs.declared.node.Part.{Part}
use Rattle.data_model.specs.declared.node.Part.TheVariants.{Attributes, Children}
use Rattle.node_table.specs.Rows.{table_of}
use Rattle.node_table.specs.Labels.{position_in}
use Rattle.node_table.proofs.Rows.{row-entry, row-none}
use Rattle.node_table.proofs.order.position.Goals as goal

is : (c : goal.After-len) → c.len.result + c.args.index ≡ position_in c.args.part c.args.index (table_of c.args.rows.now c.args.id)
is c =
    let r = c.in-Some.row.now in
    let at = rw c.number.ensures at (row-entry c.args.rows.now c.number.result c.in-Some.row.now (sym c.get.ensures ∙ ap option_copied c.in-Some.is)) in
    let len = c.len.ensures in
    let sum : c.len.result + c.args.index ≡ length r.attributes.items + c.args.index = omega arith in
    sum ∙ sym (ap (λ p. position_in p c.args.index (table_of c.args.rows.now c.args.id)) c.in-Children.is ∙ ap (position_in Children c.args.index) at)

pub overflow_add-result : goal.overflow_add-result
overflow_add-result c = let e = is c in let fits = c.requires.within in omega arith

pub returns-in-Children : goal.returns-in-Children
returns-in-Children c = is c

index-none : (part : Part) (n : ℕ) → n ≡ position_in part n None
index-none Attributes n = refl
index-none Children n = refl

pub returns-in-None : goal.returns-in-None
returns-in-None c = index-none c.args.part c.args.index ∙ sym (ap (position_in c.args.part c.args.index) (rw c.number.ensures at (row-none c.args.rows.now c.number.result (sym c.get.ensures ∙ ap option_copied c.in-None.is))))
