-- The data of the worked examples.
use Rattle.std.specs.Prelude.{[], codes}
use Rattle.data_model.specs.Trees.{Trees, no_trees, tree, leaf}
use Rattle.data_model.specs.declared.node.Kind.TheVariants.{Text}

-- two texts that have no parent: 1 is empty, and 2 stands next to it
abbrev pub lone_texts : Trees
lone_texts = tree (record { identity = 1; kind = Text; name = []; text = [] }) no_trees no_trees (leaf (record { identity = 2; kind = Text; name = []; text = codes "t" }))
