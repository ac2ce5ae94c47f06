-- A node's text is made of its pieces. What both calls of `push_parts` require holds of either list, so their order is a matter of the text alone.
use Rattle.std.proofs.Common.{◌≡◌, ◌∷◌, ◌+◌, [], arith, refl, ap, sym, ◌∙◌, codes, rules, drop, drop-cons, drop_of_length-le, map}
use Rattle.data_model.specs.Trees.{find, attributes_of, children_of}
use Rattle.shelves.specs.Shelf.{shelf_trees}
use Rattle.values.specs.Printing.{place_text}
use Rattle.values.specs.Inside.{opening, following}
use Rattle.values.specs.Limited.{LimitedTerm, added}
use Rattle.values.proofs.Limits.{added-none, added-three, added-five}
use Rattle.values.proofs.Constructors.{parts-step}
use Rattle.values.proofs.Parts.{has-parts, inner-whole, leaf-whole, text_in}
use Rattle.values.proofs.print.+printing.Goals as goal
use Rattle.values.proofs.print.+printing.Goals.{push_node-then-is_inner+in_ok-push_parts+in_ok-push_parts-2+in_ok-push, push_node-else-is_inner+in_ok-push_literal, push_parts-then-follows+in_ok-push}

pub push_node-push_parts-requires : goal.push_node-push_parts-requires
push_node-push_parts-requires t c =
    let p = has-parts (shelf_trees c.args.shelf.now) c.args.id c.kind-kind.result c.name.result.now c.attributes-attributes.result.now c.children-children.result.now c.requires.distinct c.kind-kind.ensures c.name.ensures c.attributes-attributes.ensures c.children-children.ensures in
    (omega arith, (search (p.attributes, p.children), c.requires.distinct))

pub push_node-push_parts-requires-then-is_inner : goal.push_node-push_parts-requires-then-is_inner
push_node-push_parts-requires-then-is_inner t c =
    let p = has-parts (shelf_trees c.args.shelf.now) c.args.id c.kind-kind.result c.name.result.now c.attributes-attributes.result.now c.children-children.result.now c.requires.distinct c.kind-kind.ensures c.name.ensures c.attributes-attributes.ensures c.children-children.ensures in
    (omega arith, (search (p.attributes, p.children), c.requires.distinct))

pub push_node-returns : goal.push_node-returns
push_node-returns t c =
    let ts = (shelf_trees c.args.shelf.now) in
    let old = c.args.out.now in
    let k = c.kind-kind.result in
    let name = c.name.result.now in
    let whole : added c.if-is_inner.out (codes "}") ≡ added old (place_text (find c.args.id ts)) = elim c.if-is_inner.branch [
      | push_node-then-is_inner+in_ok-push_parts+in_ok-push_parts-2+in_ok-push w ↦ (let bs = w.attributes-attributes.result.now in
          let cs = w.children-children.result.now in
          let p = has-parts ts c.args.id k name bs cs c.requires.distinct c.kind-kind.ensures c.name.ensures w.attributes-attributes.ensures w.children-children.ensures in
          rw (w.out-is, w.in_ok-push.ensures.pushed, w.nothing_text.ensures, w.in_ok-push_parts-2.ensures, w.is_empty.ensures, w.in_ok-push_parts.ensures, c.in_ok-push_opening.ensures)
          (added-five old (opening k name) _ _ _ (codes "}") ∙ ap (added old) (inner-whole ts c.args.id k name bs cs p [] (sym c.is_inner.ensures ∙ w.if-is_inner.true))))
      | push_node-else-is_inner+in_ok-push_literal w ↦ (let p = has-parts ts c.args.id k name (attributes_of c.args.id ts) (children_of c.args.id ts) c.requires.distinct c.kind-kind.ensures c.name.ensures refl refl in
          rw (w.out-is, w.in_ok-push_literal.ensures, c.in_ok-push_opening.ensures)
          (added-three old (opening k name) _ (codes "}") ∙ ap (added old) (leaf-whole ts c.args.id k name _ _ p [] w.text.result.now w.text.ensures (sym c.is_inner.ensures ∙ w.if-is_inner.false))))
    ] in
    rw (← whole) (search rules)

pub push_parts-returns-then-is_too_long : goal.push_parts-returns-then-is_too_long
push_parts-returns-then-is_too_long t c = sym (added-none c.loop-id.out _ (search rules)) ∙ c.loop-id.invariant

pub push_parts-loop-id-preserved : goal.push_parts-loop-id-preserved
push_parts-loop-id-preserved t c =
    let ts = shelf_trees c.args.shelf.now in
    let ids = c.args.ids.now in
    let i = c.loop-id.id-index in
    let rest : drop i ids ≡ c.id-item.result ∷ drop (i + 1) ids = search (drop-cons ids i c.id-item.result c.loop-id-test.true, rules) in
    let m : added (added c.if-follows.out (text_in ts c.id-item.result)) (following _ (map (text_in ts) (drop (i + 1) ids))) ≡ added c.loop-id.out (following c.loop-id.follows (text_in ts c.id-item.result ∷ map (text_in ts) (drop (i + 1) ids))) =
    parts-step c.loop-id.out c.if-follows.out c.loop-id.follows (text_in ts c.id-item.result) (map (text_in ts) (drop (i + 1) ids)) (search rules) (search rules) in
    ap (λ (l : LimitedTerm). added l (following _ (map (text_in ts) (drop (i + 1) ids)))) c.in_ok-push_node.ensures ∙ m ∙ ap (λ js. added c.loop-id.out (following c.loop-id.follows (map (text_in ts) js))) (sym rest) ∙ c.loop-id.invariant

pub push_parts-returns : goal.push_parts-returns
push_parts-returns t c =
    let ts = shelf_trees c.args.shelf.now in
    let none : drop c.loop-id.id-index c.args.ids.now ≡ [] = drop_of_length-le c.args.ids.now (search (c.loop-id-test.false, arith)) in
    sym c.facts.ensures ∙ ap (λ js. added c.loop-id.out (following c.loop-id.follows (map (text_in ts) js))) (sym none) ∙ c.loop-id.invariant
