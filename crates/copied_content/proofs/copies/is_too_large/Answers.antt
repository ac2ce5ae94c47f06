use Rattle.std.proofs.Common.{◌≡◌, refl, sym, ◌∙◌, subst, arith}
use Rattle.data_model.specs.Trees.{find, IsAt}
use Rattle.data_model.specs.declared.node.Kind.{Kind}
use Rattle.shelves.specs.Shelf.{shelf_trees}
use Rattle.copied_content.proofs.Sources.{bare, document_size, is_more, passes, source_few}
use Rattle.copied_content.proofs.copies.is_too_large.Goals as goal

pub returns-then-is_within-clause-known : goal.returns-then-is_within-clause-known
returns-then-is_within-clause-known c = λ plain over.
    let ts = shelf_trees c.args.shelf.now in
    let few = source_few c.args.node ts (find c.args.node ts) c.facts.ensures.distinct refl in
    let within = c.is_within.ensures.0 c.if-is_within.true in
    absurd (omega (arith, few, within, over))

pub returns-then-is_empty-clause-more : goal.returns-then-is_empty-clause-more
returns-then-is_empty-clause-more c =
    let ts = shelf_trees c.args.shelf.now in
    let P : Kind → Type 0 = λ k. IsAt (find c.args.node ts) (λ x. k ≡ x.kind) in
    let none = bare c.attributes.result.now c.is_empty.result c.is_empty.ensures c.if-is_empty.true in
    passes c.is_within-then-is_empty.result _ c.args.most _ c.is_within-then-is_empty.ensures
    (document_size c.args.node ts (find c.args.node ts) c.facts.ensures.distinct refl (subst P c.in-Document.is c.kind.ensures) (sym c.attributes.ensures ∙ none))

pub returns-then-is_empty-clause-known : goal.returns-then-is_empty-clause-known
returns-then-is_empty-clause-known c = λ plain over.
    let ts = shelf_trees c.args.shelf.now in
    let P : Kind → Type 0 = λ k. IsAt (find c.args.node ts) (λ x. k ≡ x.kind) in
    let none = bare c.attributes.result.now c.is_empty.result c.is_empty.ensures c.if-is_empty.true in
    is_more c.is_within-then-is_empty.result _ c.args.most _ c.is_within-then-is_empty.ensures
    (document_size c.args.node ts (find c.args.node ts) c.facts.ensures.distinct refl (subst P c.in-Document.is c.kind.ensures) (sym c.attributes.ensures ∙ none)) over
