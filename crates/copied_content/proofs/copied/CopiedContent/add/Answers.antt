use Rattle.std.proofs.Common.{ap, ◌∙◌}
use Rattle.data_model.specs.Tree.{all_of, trees_of_tree}
use Rattle.data_model.specs.Trees.{append}
use Rattle.data_model.proofs.Turns.{all_of-push}
use Rattle.copied_content.proofs.copied.CopiedContent.add.Goals as goal

pub returns : goal.returns
returns c = ap all_of c.in_ok-push.ensures.items ∙ all_of-push c.self.inside.trees.items c.args.tree ∙ ap (λ us. append us (trees_of_tree c.args.tree)) c.self.view_is
