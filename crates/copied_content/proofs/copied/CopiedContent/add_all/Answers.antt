use Rattle.std.proofs.Common.{ap, ◌∙◌}
use Rattle.data_model.specs.Tree.{all_of}
use Rattle.data_model.specs.Trees.{append}
use Rattle.copied_content.proofs.Attributes.{all_of_both}
use Rattle.copied_content.proofs.copied.CopiedContent.add_all.Goals as goal

pub returns : goal.returns
returns c = ap all_of c.in_ok-append.ensures.items ∙ all_of_both c.self.inside.trees.items c.args.trees.items ∙ ap (λ us. append us (all_of c.args.trees.items)) c.self.view_is
