use Rattle.std.proofs.Common.{◌≡◌}
use Rattle.data_model.specs.Tree.{all_of}
use Rattle.query_meaning.specs.Content.{attributes, others}
use Rattle.copied_content.proofs.copied.CopiedContent.split.Given as goal

abbrev pub invariant-loop-tree : goal.invariant-loop-tree
invariant-loop-tree l = record {
  attributes : all_of l.split.attributes.items ≡ attributes (all_of l.yielded);
  others : all_of l.split.others.items ≡ others (all_of l.yielded);
}
