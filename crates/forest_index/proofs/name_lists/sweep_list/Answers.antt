use Rattle.std.proofs.Common.{◌∙◌, string_bytes, rules, arith}
use Rattle.std.proofs.lemmas.Fn.{filter_same}
use Rattle.std.proofs.lemmas.Bool.Decides.{nat_tests}
use Rattle.node_table.specs.Rows.{table_of}
use Rattle.forest_index.proofs.Named.{is_element_of, element-test, swept-list}
use Rattle.forest_index.proofs.name_lists.sweep_list.Goals as goal

pub returns : goal.returns
unfolding table_of
returns c =
    let n = string_bytes c.args.name.now in
    let f = table_of c.args.rows.now in
    swept-list f n c.args.list.now.items c.sort_once.new.list.items c.shrink.new.list.items _ c.sort_once.ensures (c.shrink.ensures ∙ filter_same _ (λ i. is_element_of n (f i)) _ (λ x b g call. search (rules, element-test)) _ _ c.retain.ensures.filtered) (let e = c.is_empty.ensures in let ok = c.shrink.new.list.ok in grind (arith, nat_tests))
