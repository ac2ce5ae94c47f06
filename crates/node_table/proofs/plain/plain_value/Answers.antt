use Rattle.std.proofs.Common.{◌≡◌, ◌∙◌, ◌+◌, ap, sym, refl, arith, suc, option_copied, ◌∷◌, []}
use Rattle.data_model.specs.Trees.{size}
use Rattle.node_table.specs.Flat.{read_trees}
use Rattle.node_table.specs.Rows.{table_of, entry_of_row}
use Rattle.node_table.proofs.Rows.{row-entry}
use Rattle.node_table.proofs.InPlace.{size-single, plus-one}
use Rattle.node_table.proofs.plain.plain_value.Goals as goal

pub count_by-requires : goal.count_by-requires
count_by-requires c =
    let f = table_of c.args.cursor.now in
    let n = c.args.levels in
    let r = c.in_ok-row.row.now in
    let at = rw c.number.ensures at (row-entry c.args.cursor.now c.number.result r (sym c.seek.ensures.value ∙ ap option_copied c.in_ok-row.was)) in
    let one = size-single f n c.args.id (entry_of_row r) at in
    let few = rw (plus-one n) at c.requires.few in
    let list = c.deref.ensures.value in
    rw (list, c.text_below.ensures.same ∙ c.seek.ensures.same) (omega (arith, one, few))

pub overflow_add-result : goal.overflow_add-result
overflow_add-result c =
    let f = table_of c.args.cursor.now in
    let n = c.args.levels in
    let r = c.in_ok-row.row.now in
    let at = rw c.number.ensures at (row-entry c.args.cursor.now c.number.result r (sym c.seek.ensures.value ∙ ap option_copied c.in_ok-row.was)) in
    let one = size-single f n c.args.id (entry_of_row r) at in
    let few = rw (plus-one n) at c.requires.few in
    let seen = c.text_below.ensures.same ∙ c.seek.ensures.same in
    let list : c.count_by.result ≡ size (read_trees n f r.attributes.items) = rw (c.deref.ensures.value, seen) at c.count_by.ensures.count in
    omega (arith, one, few, list)

pub overflow_add-result-2 : goal.overflow_add-result-2
overflow_add-result-2 c =
    let f = table_of c.args.cursor.now in
    let n = c.args.levels in
    let r = c.in_ok-row.row.now in
    let at = rw c.number.ensures at (row-entry c.args.cursor.now c.number.result r (sym c.seek.ensures.value ∙ ap option_copied c.in_ok-row.was)) in
    let one = size-single f n c.args.id (entry_of_row r) at in
    let few = rw (plus-one n) at c.requires.few in
    let seen = c.text_below.ensures.same ∙ c.seek.ensures.same in
    let list : c.count_by.result ≡ size (read_trees n f r.attributes.items) = rw (c.deref.ensures.value, seen) at c.count_by.ensures.count in
    let below = rw c.seek.ensures.same at c.in_ok-below.ensures.below in
    let nodes = below.nodes n c.requires.deep in
    omega (arith, one, few, list, nodes)

pub returns-clause-plain : goal.returns-clause-plain
returns-clause-plain c =
    let f = table_of c.args.cursor.now in
    let n = c.args.levels in
    let r = c.in_ok-row.row.now in
    let at = rw c.number.ensures at (row-entry c.args.cursor.now c.number.result r (sym c.seek.ensures.value ∙ ap option_copied c.in_ok-row.was)) in
    let one = size-single f n c.args.id (entry_of_row r) at in
    let seen = c.text_below.ensures.same ∙ c.seek.ensures.same in
    let list : c.count_by.result ≡ size (read_trees n f r.attributes.items) = rw (c.deref.ensures.value, seen) at c.count_by.ensures.count in
    let below = rw c.seek.ensures.same at c.in_ok-below.ensures.below in
    let nodes = below.nodes n c.requires.deep in
    let all : 1 + c.count_by.result + c.in_ok-below.below.nodes ≡ size (read_trees (suc n) f (c.args.id ∷ [])) = omega (arith, one, list, nodes) in
    record {
      entry = entry_of_row r;
      there = at;
      kind = refl;
      text = below.text n c.requires.deep;
      size = all;
    }
