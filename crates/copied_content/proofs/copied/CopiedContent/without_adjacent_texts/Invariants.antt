use Rattle.std.specs.Vec.Iter.{into_iter_items}
use Rattle.copied_content.proofs.Merging.{IsMerged}
use Rattle.copied_content.proofs.copied.CopiedContent.without_adjacent_texts.Given as goal

abbrev pub invariant-loop-tree : goal.invariant-loop-tree
invariant-loop-tree l = IsMerged l.fn.self l.yielded (into_iter_items l.tree-iterator) l.merged.items
