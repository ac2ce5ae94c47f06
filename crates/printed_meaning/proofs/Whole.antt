-- A whole evaluation of a printed tree.
use Rattle.std.proofs.Common.{◌≡◌, ℕ, ◌+◌, ◌≤◌, ◌<◌, true, ◌&&◌, [], ◌∷◌, ◌++◌, Some, None, Ok, Err, refl, ap, sym, ◌∙◌, subst, arith}
use Rattle.std.proofs.lemmas.Bool.{and_parts}
use Rattle.data_model.specs.Changes.{pick}
use Rattle.data_model.specs.Tidy.{are_tidy, may_be_attribute, may_be_child, has_distinct_names}
use Rattle.data_model.specs.Trees.{Trees, no_trees, tree, Content, Place, append, count, find, listing, parent_at, parent_of}
use Rattle.data_model.proofs.Weights.{append-none}
use Rattle.fault_codes.specs.declared.code.Code.TheVariants.{PXQ0002, PXQ0003}
use Rattle.trees.specs.Forest.{ForestTerm, IsForest}
use Rattle.values.specs.declared.atom.Item.TheVariants as item
use Rattle.query_grammar.specs.declared.ast.Expr.{Expr}
use Rattle.query_meaning.specs.Environment.{no_environment}
use Rattle.query_meaning.specs.Meaning.{mean, evaluated, start, outcome, Outcome}
use Rattle.query_meaning.specs.Running.{most_nodes, most_work}
use Rattle.printed_trees.specs.Constructors.{IsPrintable, IsPrintableTree, is_tidy_root, tree_expressions, place_expression, item_expression}
use Rattle.printed_meaning.specs.Made.{anonymous, depths, have_room, tree_at, work_of, IsMade}
use Rattle.printed_meaning.proofs.Made.{Remade, Makes}
use Rattle.printed_meaning.proofs.Nodes.{node_makes, parts_make, trees_make}
use Rattle.printed_meaning.proofs.Runs.{IsBelow}
use Rattle.printed_meaning.proofs.Tidy.{both_parts, short_texts, room_at}

place_makes : (c : Content) (bs cs : Trees) → IsPrintableTree c bs cs → have_room (tree c bs cs no_trees) ≡ true → Makes (mean (place_expression (Some (record { parent = None; content = c; attributes = bs; children = cs })))) c bs cs
place_makes c bs cs h room =
    let root = is_tidy_root c.kind c.name c.text in
    let three = and_parts (root && has_distinct_names bs && are_tidy (may_be_attribute c.kind) bs) (are_tidy (may_be_child c.kind) cs) h.tidy in
    let two = and_parts (root && has_distinct_names bs) (are_tidy (may_be_attribute c.kind) bs) three.0 in
    let one = and_parts root (has_distinct_names bs) two.0 in
    let texts = both_parts (λ d. IsPrintable d.text) (listing bs) (listing cs) h.texts in
    let short_attributes = short_texts bs texts.0 in
    let short_children = short_texts cs texts.1 in
    let rooms = room_at c bs cs no_trees room in
    node_makes c.kind c.identity c.name c.text bs cs (tree_expressions bs ++ tree_expressions cs)
    (parts_make bs cs (trees_make (may_be_attribute c.kind) bs two.1 short_attributes rooms.attributes) (trees_make (may_be_child c.kind) cs three.1 short_children rooms.children))
    (record {
      tidy = one.0;
      distinct = one.1;
      attributes = two.1;
      children = three.1;
      short = h.text.short;
      short_attributes = short_attributes;
      short_children = short_children;
      room = rooms.here;
    })

start_below : (lent : ForestTerm) → IsForest lent → IsBelow (start lent)
start_below lent h = record { below = λ i there. h.below i (subst (λ ts. 0 < count i ts) (append-none lent.trees) there) }

of_remade : (c : Content) (bs cs : Trees) (lent : ForestTerm) (x : Expr) → Remade (work_of (tree c bs cs no_trees)) c bs cs (start lent) (mean x no_environment (start lent)) → (o : Outcome) × (evaluated x lent ≡ Ok o) × IsMade (tree c bs cs no_trees) lent o
unfolding evaluated
of_remade c bs cs lent x r =
    let trees : append (append lent.trees no_trees) r.stood ≡ append lent.trees r.stood = ap (λ ts. append ts r.stood) (append-none lent.trees) in (
      record { items = item.Node r.root.identity ∷ []; primitives = []; trees = r.stood; next = lent.next + depths 1 (tree c bs cs no_trees) },
      ap outcome r.comes,
      record {
        root = r.root.identity;
        items = refl;
        primitives = refl;
        next = refl;
        new = r.new;
        parentless = ap (parent_of r.root.identity) (sym trees) ∙ ap parent_at r.stands.found;
        alike = ap (λ ts. anonymous (pick r.root.identity ts)) (sym trees) ∙ ap anonymous r.stands.picked ∙ r.alike;
      },
    )

module _ (ts : Trees) (i : ℕ) (x : Place) (lent : ForestTerm) (found : find i ts ≡ Some x) (h : IsPrintableTree x.content x.attributes x.children) (room : have_room (tree_at x) ≡ true) (forest : IsForest lent) where
  makes : Makes (mean (item_expression ts (item.Node i))) x.content x.attributes x.children
  makes = subst (λ o. Makes (mean (place_expression o)) x.content x.attributes x.children) (sym found) (place_makes x.content x.attributes x.children h room)

  pub tree_is_made : depths 1 (tree_at x) ≤ most_nodes → work_of (tree_at x) ≤ most_work → (o : Outcome) × (evaluated (item_expression ts (item.Node i)) lent ≡ Ok o) × IsMade (tree_at x) lent o
  tree_is_made few enough =
      of_remade x.content x.attributes x.children lent (item_expression ts (item.Node i)) (makes.made no_environment (start lent) (start_below lent forest) (omega (arith, few)) enough)

  pub tree_is_refused : most_nodes < depths 1 (tree_at x) → work_of (tree_at x) ≤ most_work → evaluated (item_expression ts (item.Node i)) lent ≡ Err PXQ0003
  unfolding evaluated
  tree_is_refused many enough = ap outcome (makes.refused no_environment (start lent) (start_below lent forest) (omega arith) (omega (arith, many)) enough)

  pub tree_is_dear : depths 1 (tree_at x) ≤ most_nodes → most_work < work_of (tree_at x) → evaluated (item_expression ts (item.Node i)) lent ≡ Err PXQ0002
  unfolding evaluated
  tree_is_dear few dear = ap outcome (makes.dear no_environment (start lent) (start_below lent forest) (omega (arith, few)) dear)
