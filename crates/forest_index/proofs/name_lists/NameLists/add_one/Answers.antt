use Rattle.std.proofs.Common.{◌∙◌, ap, sym, subst, Option, option_copied, option_map, ℕ}
use Rattle.node_table.specs.declared.table.Row.{Row}
use Rattle.node_table.specs.Flat.{Entry}
use Rattle.node_table.specs.Rows.{row_of, table_of, entry_of_row}
use Rattle.node_plans.proofs.Results.{on-ok}
use Rattle.forest_index.specs.Named.{IsElement, IsListed}
use Rattle.forest_index.proofs.Named.{named-kept, element-planned}
use Rattle.forest_index.proofs.name_lists.NameLists.add_one.Goals as goal

pub returns-in-Some-clause-named : goal.returns-in-Some-clause-named
unfolding row_of table_of
returns-in-Some-clause-named c =
    let x = c.args.self.now in
    let y = c.add_changed.new.self in
    let planned = element-planned c.args.plan.now c.args.rows.now c.args.id c.in-Some.row.now (sym c.get.ensures ∙ ap option_copied c.in-Some.is) in
    on-ok c.add_changed.result _ _ c.add_changed.ensures.listed (λ listed n e.
    (let P : Option Entry → Type 0 = IsElement n in
    let Q : Option Row → Type 0 = λ o. P (option_map entry_of_row o) in
    let R : ℕ → Type 0 = IsListed x n in
    subst (λ j. IsListed y n j) c.new.ensures (listed n (subst P planned e) (λ was. subst R (sym c.new.ensures) (c.requires n c.args.id (subst Q c.get-in-Some.ensures was))))))

pub returns-in-None-clause-named : goal.returns-in-None-clause-named
unfolding row_of
returns-in-None-clause-named c = named-kept c.args.plan.now c.args.rows.now c.args.self.now c.args.id c.requires (sym c.get.ensures ∙ ap option_copied c.in-None.is)
