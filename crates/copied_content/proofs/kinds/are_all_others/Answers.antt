use Rattle.std.proofs.Common.{◌∙◌, rules}
use Rattle.std.proofs.lemmas.Iterator.{YieldsList-from_slice}
use Rattle.std.proofs.lemmas.Iterator.Search.{all_from_yields_List}
use Rattle.data_model.specs.Tree.{TreeTerm}
use Rattle.query_meaning.specs.Content.{is_other}
use Rattle.copied_content.proofs.Attributes.{all_are}
use Rattle.copied_content.proofs.kinds.are_all_others.Goals as goal

pub returns : goal.returns
returns c =
    all_from_yields_List (λ (t : TreeTerm). is_other t.content.kind) _ _ _ c.all.ensures.ran (YieldsList-from_slice c.args.trees.now cc) (λ x b q k. search rules) ∙ all_are is_other c.args.trees.now
