use Rattle.std.proofs.Common.{IsSome, refl, sym, ◌∙◌, ap, subst, arith}
use Rattle.data_model.specs.Trees.{find, size}
use Rattle.shelves.specs.Shelf.{ShelfTerm, shelf_trees}
use Rattle.query_meaning.specs.Content.{source_at}
use Rattle.node_table.proofs.Plants.{size-within-identities}
use Rattle.copied_content.specs.Copying.{after, copied_as_new, leaving, numbered, source_of}
use Rattle.copied_content.proofs.Parts.{gives_same}
use Rattle.copied_content.proofs.Sources.{picked_few, picked_source}
use Rattle.copied_content.proofs.copied.CopiedContent.add_copy_as_new.Goals as goal

pub add_numbered-requires : goal.add_numbered-requires
add_numbered-requires c =
    let ts = shelf_trees c.shelf-shelf.result.now in
    let picked = ap size c.in_ok-tree.ensures in
    let few = picked_few c.args.node ts in
    let most = size-within-identities c.shelf-shelf.result.now.own.next ts c.facts.ensures.distinct c.facts.ensures.below in
    let next = ap (λ (s : ShelfTerm). s.own.next) c.shelf-shelf.ensures in
    record { few = omega (arith, picked, few, most, next) }

pub returns-clause-added : goal.returns-clause-added
returns-clause-added c =
    let i = c.args.node in
    let ts = shelf_trees c.shelf-shelf.result.now in
    let P : ShelfTerm → Type 0 = λ s. IsSome (find i (shelf_trees s)) in
    let is =
    picked_source i ts (find i ts) c.in_ok-tree.tree c.facts.ensures.distinct refl (subst P (sym c.shelf-shelf.ensures) c.requires.there) c.in_ok-tree.ensures
    ∙ ap (λ (s : ShelfTerm). source_at i (shelf_trees s) (find i (shelf_trees s))) c.shelf-shelf.ensures in
    gives_same (after c.args.self.now (copied_as_new i)) (after c.args.self.now (numbered (source_of c.in_ok-tree.tree))) c.args.run.now c.add_numbered.new.run (leaving c.add_numbered.result c.add_numbered.new.self)
    (ap (λ us. after c.args.self.now (numbered us) c.args.run.now) (sym is))
    c.add_numbered.ensures.added
