use Rattle.std.proofs.Common.{◌≡◌, ℕ, ◌+◌, Some, take, drop, length, max, cond, eqb, ap, sym, refl, ◌∙◌, arith, subst, ⊎_elim}
use Rattle.std.proofs.lemmas.Bool.Decides.{eqb_tells}
use Rattle.data_model.specs.Trees.{Trees, Content, append, count, roots, size}
use Rattle.data_model.specs.Tree.{all_of, trees_of_tree}
use Rattle.data_model.specs.Planted.{past}
use Rattle.node_table.specs.Flat.{Holds, entry_of}
use Rattle.node_table.specs.Rows.{table_of, entry_of_row, row_of}
use Rattle.node_table.specs.Labels.{place_of, AreRanked}
use Rattle.std.proofs.lemmas.List.{length-append}
use Rattle.node_table.specs.declared.table.Row.{Row}
use Rattle.data_model.proofs.Weights.{roots-append}
use Rattle.node_table.proofs.Rows.{row-sets, rows-same, row-set, table-row, place-row, place-own}
use Rattle.node_table.proofs.Plants.{Holds-planted, ranked-planted, length-all}
use Rattle.data_model.proofs.Turns.{drop-tree, take-tree, weigh-turn}
use Rattle.node_table.proofs.Listings.{length-roots}
use Rattle.node_table.proofs.plant.+plant_all.Goals as goal

pub add-requires : goal.add-requires
add-requires t c =
    let item = c.tree-item.result in
    let ts = c.args.trees.now in
    let at = c.loop-tree.tree-index in
    let turn : size (all_of (drop at ts)) ≡ 1 + size item.attributes + size item.children + size (all_of (drop (at + 1) ts)) = ap size (drop-tree ts at item c.loop-tree-test.true c.tree-item.is) in
    let counted = c.loop-tree.invariant.counted in
    let room = c.requires.room in
    omega arith

pub plant_all-requires : goal.plant_all-requires
plant_all-requires t c =
    let item = c.tree-item.result in
    let ts = c.args.trees.now in
    let at = c.loop-tree.tree-index in
    let weight = weigh-turn (λ _. 1) ts at item c.loop-tree-test.true c.tree-item.is in
    let less = c.decreases in
    let bs : size (all_of c.attributes-attributes.result.now) ≡ size item.attributes = ap size c.attributes-attributes.ensures in
    let few = c.requires.few in
    let turn : size (all_of (drop at ts)) ≡ 1 + size item.attributes + size item.children + size (all_of (drop (at + 1) ts)) = ap size (drop-tree ts at item c.loop-tree-test.true c.tree-item.is) in
    let counted = c.loop-tree.invariant.counted in
    let room = c.requires.room in
    let one_more = c.add.ensures.nodes in
    (omega arith, (λ i. (let w = weigh-turn (λ j. cond (eqb i j) 1 0) ts at item c.loop-tree-test.true c.tree-item.is in let d = c.requires.distinct i in let one : count i (all_of c.attributes-attributes.result.now) ≡ count i item.attributes = ap (count i) c.attributes-attributes.ensures in omega arith), (omega arith, omega arith)))

pub plant_all-requires-in-loop-tree : goal.plant_all-requires-in-loop-tree
plant_all-requires-in-loop-tree t c =
    let item = c.tree-item.result in
    let ts = c.args.trees.now in
    let at = c.loop-tree.tree-index in
    let weight = weigh-turn (λ _. 1) ts at item c.loop-tree-test.true c.tree-item.is in
    let less = c.decreases in
    let cs : size (all_of c.children.result.now) ≡ size item.children = ap size c.children.ensures in
    let few = c.requires.few in
    let bs : size (all_of c.attributes-attributes.result.now) ≡ size item.attributes = ap size c.attributes-attributes.ensures in
    let all = length-all c.attributes-attributes.result.now in
    let most = length-roots (all_of c.attributes-attributes.result.now) in
    let turn : size (all_of (drop at ts)) ≡ 1 + size item.attributes + size item.children + size (all_of (drop (at + 1) ts)) = ap size (drop-tree ts at item c.loop-tree-test.true c.tree-item.is) in
    let counted = c.loop-tree.invariant.counted in
    let room = c.requires.room in
    let one_more = c.add.ensures.nodes in
    let planted = c.in_ok-plant_all.ensures.counted in
    (omega arith, (λ i. (let w = weigh-turn (λ j. cond (eqb i j) 1 0) ts at item c.loop-tree-test.true c.tree-item.is in let d = c.requires.distinct i in let one : count i (all_of c.children.result.now) ≡ count i item.children = ap (count i) c.children.ensures in omega arith), (omega arith, omega arith)))

pub returns-in_err-plant_all-clause-same : goal.returns-in_err-plant_all-clause-same
returns-in_err-plant_all-clause-same t c = λ i none.
    (
    let item = c.tree-item.result in
    let ts = c.args.trees.now in
    let at = c.loop-tree.tree-index in
    let w = weigh-turn (λ j. cond (eqb i j) 1 0) ts at item c.loop-tree-test.true c.tree-item.is in
    let bs : count i (all_of c.attributes-attributes.result.now) ≡ count i item.attributes = ap (count i) c.attributes-attributes.ensures in
    c.plant_all.ensures.same i (omega arith) ∙ c.loop-tree.invariant.same i none)

pub returns-in_err-plant_all-2-clause-same : goal.returns-in_err-plant_all-2-clause-same
returns-in_err-plant_all-2-clause-same t c = λ i none.
    (
    let item = c.tree-item.result in
    let ts = c.args.trees.now in
    let at = c.loop-tree.tree-index in
    let w = weigh-turn (λ j. cond (eqb i j) 1 0) ts at item c.loop-tree-test.true c.tree-item.is in
    let bs : count i (all_of c.attributes-attributes.result.now) ≡ count i item.attributes = ap (count i) c.attributes-attributes.ensures in
    let cs : count i (all_of c.children.result.now) ≡ count i item.children = ap (count i) c.children.ensures in
    c.plant_all-in-loop-tree.ensures.same i (omega arith) ∙ c.plant_all.ensures.same i (omega arith) ∙ c.loop-tree.invariant.same i none)

pub returns-in_err-insert-clause-same : goal.returns-in_err-insert-clause-same
returns-in_err-insert-clause-same t c = λ i none.
    (
    let item = c.tree-item.result in
    let ts = c.args.trees.now in
    let at = c.loop-tree.tree-index in
    let w = weigh-turn (λ j. cond (eqb i j) 1 0) ts at item c.loop-tree-test.true c.tree-item.is in
    let bs : count i (all_of c.attributes-attributes.result.now) ≡ count i item.attributes = ap (count i) c.attributes-attributes.ensures in
    let cs : count i (all_of c.children.result.now) ≡ count i item.children = ap (count i) c.children.ensures in
    rows-same c.plant_all-in-loop-tree.new.rows c.insert.new.self c.in_err-insert.ensures.refused i ∙ c.plant_all-in-loop-tree.ensures.same i (omega arith) ∙ c.plant_all.ensures.same i (omega arith) ∙ c.loop-tree.invariant.same i none)

pub returns-in_err-push-clause-same : goal.returns-in_err-push-clause-same
returns-in_err-push-clause-same t c = λ i none.
    (
    let item = c.tree-item.result in
    let ts = c.args.trees.now in
    let at = c.loop-tree.tree-index in
    let view = c.content.view_is ∙ c.content-content.ensures in
    let id : c.number.result ≡ item.content.identity = c.number.ensures ∙ ap (λ (n : Content). n.identity) view in
    let r : Row = record { kind = c.content.inside.kind; has_parent = c.as_in_row-has_parent.result.0; name = c.in_ok-name.field-0; text = c.in_ok-to_shared.field-0; parent = c.as_in_row-has_parent.result.1; attributes = c.in_ok-plant_all.field-0; children = c.in_ok-plant_all-2.field-0; place = c.loop-tree.place } in
    let set = rw id at (row-set c.plant_all-in-loop-tree.new.rows c.insert.new.self c.number.result r c.in_ok-insert.ensures.put) in
    let w = weigh-turn (λ j. cond (eqb i j) 1 0) ts at item c.loop-tree-test.true c.tree-item.is in
    let bs : count i (all_of c.attributes-attributes.result.now) ≡ count i item.attributes = ap (count i) c.attributes-attributes.ensures in
    let cs : count i (all_of c.children.result.now) ≡ count i item.children = ap (count i) c.children.ensures in
    set.1 i (⊎_elim (λ x. (let z = rw x.0 at w in absurd (omega arith))) (λ x. x.1) (eqb_tells i item.content.identity)) ∙ c.plant_all-in-loop-tree.ensures.same i (omega arith) ∙ c.plant_all.ensures.same i (omega arith) ∙ c.loop-tree.invariant.same i none)

pub loop-tree-preserved : goal.loop-tree-preserved
loop-tree-preserved t c =
    let item = c.tree-item.result in
    let ts = c.args.trees.now in
    let at = c.loop-tree.tree-index in
    let view = c.content.view_is ∙ c.content-content.ensures in
    let id : c.number.result ≡ item.content.identity = c.number.ensures ∙ ap (λ (n : Content). n.identity) view in
    let name : c.in_ok-name.field-0 ≡ item.content.name = c.in_ok-name.ensures ∙ c.as_str.ensures ∙ ap (λ (n : Content). n.name) view in
    let text : c.in_ok-to_shared.field-0 ≡ item.content.text = c.in_ok-to_shared.ensures ∙ ap (λ (n : Content). n.text) view in
    let kind = ap (λ (n : Content). n.kind) view in
    let roots1 : c.in_ok-plant_all.field-0.items ≡ roots item.attributes = c.in_ok-plant_all.ensures.roots ∙ ap roots c.attributes-attributes.ensures in
    let roots2 : c.in_ok-plant_all-2.field-0.items ≡ roots item.children = c.in_ok-plant_all-2.ensures.roots ∙ ap roots c.children.ensures in
    let r : Row = record { kind = c.content.inside.kind; has_parent = c.as_in_row-has_parent.result.0; name = c.in_ok-name.field-0; text = c.in_ok-to_shared.field-0; parent = c.as_in_row-has_parent.result.1; attributes = c.in_ok-plant_all.field-0; children = c.in_ok-plant_all-2.field-0; place = c.loop-tree.place } in
    let says : entry_of_row r ≡ entry_of item.content c.args.parent (roots item.attributes) (roots item.children) =
    λ j. record { kind = kind j; name = name j; text = text j; parent = c.as_in_row-has_parent.ensures j; attributes = roots1 j; children = roots2 j } in
    let g0 = table_of c.loop-tree.rows in
    let g1 = table_of c.plant_all.new.rows in
    let g2 = table_of c.plant_all-in-loop-tree.new.rows in
    let g3 = table_of c.insert.new.self in
    let sets = row-sets g2 c.plant_all-in-loop-tree.new.rows c.insert.new.self c.number.result item.content.identity r (entry_of item.content c.args.parent (roots item.attributes) (roots item.children)) refl id says c.in_ok-insert.ensures.put in
    let inv = c.loop-tree.invariant in
    let front = all_of (take at ts) in
    let same = ap (λ (n : Content). n.identity) view in
    let holds1 : Holds g1 (Some item.content.identity) item.attributes = rw (same, c.attributes-attributes.ensures) at c.in_ok-plant_all.ensures.planted in
    let holds2 : Holds g2 (Some item.content.identity) item.children = rw (same, c.children.ensures) at c.in_ok-plant_all-2.ensures.planted in
    let rows1 : (i : ℕ) → count i item.attributes ≡ 0 → row_of c.plant_all.new.rows i ≡ row_of c.loop-tree.rows i = rw c.attributes-attributes.ensures at c.plant_all.ensures.same in
    let rows2 : (i : ℕ) → count i item.children ≡ 0 → row_of c.plant_all-in-loop-tree.new.rows i ≡ row_of c.plant_all.new.rows i = rw c.children.ensures at c.plant_all-in-loop-tree.ensures.same in
    let same1 : (i : ℕ) → count i item.attributes ≡ 0 → g1 i ≡ g0 i = λ i h. table-row c.loop-tree.rows c.plant_all.new.rows i (rows1 i h) in
    let same2 : (i : ℕ) → count i item.children ≡ 0 → g2 i ≡ g1 i = λ i h. table-row c.plant_all.new.rows c.plant_all-in-loop-tree.new.rows i (rows2 i h) in
    let set = rw id at (row-set c.plant_all-in-loop-tree.new.rows c.insert.new.self c.number.result r c.in_ok-insert.ensures.put) in
    let before : length c.attributes-attributes.result.now ≡ length (roots item.attributes) = sym (length-all c.attributes-attributes.result.now) ∙ ap (λ us. length (roots us)) c.attributes-attributes.ensures in
    let ranked1 : AreRanked (place_of c.plant_all.new.rows) 0 item.attributes = rw c.attributes-attributes.ensures at c.in_ok-plant_all.ensures.ranked in
    let ranked2 : AreRanked (place_of c.plant_all-in-loop-tree.new.rows) (length (roots item.attributes)) item.children = rw (c.children.ensures, before) at c.in_ok-plant_all-2.ensures.ranked in
    let longer : length (roots (append front (trees_of_tree item))) ≡ length (roots front) + 1 = ap length (roots-append front (trees_of_tree item)) ∙ length-append (roots front) (roots (trees_of_tree item)) in
    let more = take-tree ts at item c.loop-tree-test.true c.tree-item.is in
    let P : Trees → Type 0 = Holds g3 c.args.parent in
    let R : Trees → Type 0 = AreRanked (place_of c.insert.new.self) c.args.first in
    record {
      ids = c.in_ok-push.ensures ∙ rw (inv.ids, same) (sym (ap roots more ∙ roots-append front (trees_of_tree item)));
      planted = subst P (sym more)
          (Holds-planted g0 g1 g2 g3 c.args.parent item.content front item.attributes item.children (λ i. (let w = weigh-turn (λ j. cond (eqb i j) 1 0) ts at item c.loop-tree-test.true c.tree-item.is in let d = c.requires.distinct i in omega arith)) inv.planted same1 holds1 same2 holds2 sets);
      place = ap (λ n. n + 1) inv.place ∙ rw (more, longer) (omega arith);
      ranked = subst R (sym more)
          (ranked-planted (place_of c.loop-tree.rows) (place_of c.plant_all.new.rows) (place_of c.plant_all-in-loop-tree.new.rows) (place_of c.insert.new.self) c.args.first item.content front item.attributes item.children
          (λ i. (let w = weigh-turn (λ j. cond (eqb i j) 1 0) ts at item c.loop-tree-test.true c.tree-item.is in let d = c.requires.distinct i in omega arith)) inv.ranked (λ i h. place-row c.loop-tree.rows c.plant_all.new.rows i (rows1 i h)) ranked1
          (λ i h. place-row c.plant_all.new.rows c.plant_all-in-loop-tree.new.rows i (rows2 i h)) ranked2 (place-own c.insert.new.self item.content.identity r set.0 ∙ inv.place) (λ i ne. place-row c.plant_all-in-loop-tree.new.rows c.insert.new.self i (set.1 i ne)));
      same = λ i none. (let w = weigh-turn (λ j. cond (eqb i j) 1 0) ts at item c.loop-tree-test.true c.tree-item.is in set.1 i (⊎_elim (λ x. (let z = rw x.0 at w in absurd (omega arith))) (λ x. x.1) (eqb_tells i item.content.identity)) ∙ rows2 i (omega arith) ∙ rows1 i (omega arith) ∙ inv.same i none);
      counted = (let turn : size (all_of (drop at ts)) ≡ 1 + size item.attributes + size item.children + size (all_of (drop (at + 1) ts)) = ap size (drop-tree ts at item c.loop-tree-test.true c.tree-item.is) in
          let one = c.add.ensures.nodes in
          let two = c.in_ok-plant_all.ensures.counted in
          let three = c.in_ok-plant_all-2.ensures.counted in
          let bs : size (all_of c.attributes-attributes.result.now) ≡ size item.attributes = ap size c.attributes-attributes.ensures in
          let cs : size (all_of c.children.result.now) ≡ size item.children = ap size c.children.ensures in
          let all = inv.counted in
          omega arith);
      largest = (let turn : past (all_of (drop at ts)) ≡ max (item.content.identity + 1) (max (past item.attributes) (max (past item.children) (past (all_of (drop (at + 1) ts))))) = ap past (drop-tree ts at item c.loop-tree-test.true c.tree-item.is) in
          let one = c.add.ensures.largest in
          let two = c.in_ok-plant_all.ensures.largest in
          let three = c.in_ok-plant_all-2.ensures.largest in
          let bs : past (all_of c.attributes-attributes.result.now) ≡ past item.attributes = ap past c.attributes-attributes.ensures in
          let cs : past (all_of c.children.result.now) ≡ past item.children = ap past c.children.ensures in
          let all = inv.largest in
          omega (arith, same));
    }

pub overflow_add-place : goal.overflow_add-place
overflow_add-place t c =
    let ts = c.args.trees.now in
    let at = c.loop-tree.tree-index in
    let weight = weigh-turn (λ _. 1) ts at c.tree-item.result c.loop-tree-test.true c.tree-item.is in
    let most = length-roots (all_of (take at ts)) in
    let now = c.loop-tree.invariant.place in
    let few = c.requires.few in
    omega arith
