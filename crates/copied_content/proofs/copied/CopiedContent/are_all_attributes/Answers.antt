use Rattle.std.proofs.Common.{◌∙◌, ap, rules}
use Rattle.std.proofs.lemmas.Iterator.{YieldsList-from_slice}
use Rattle.std.proofs.lemmas.Iterator.Search.{all_from_yields_List}
use Rattle.data_model.specs.Tree.{TreeTerm}
use Rattle.query_meaning.specs.Content.{is_attribute, are_all}
use Rattle.copied_content.proofs.Attributes.{all_are}
use Rattle.copied_content.proofs.copied.CopiedContent.are_all_attributes.Goals as goal

pub returns : goal.returns
returns c =
    all_from_yields_List (λ (t : TreeTerm). is_attribute t.content.kind) _ _ _ c.all.ensures.ran (YieldsList-from_slice c.as_slice.result.now cc) (λ x b q k. search rules) ∙ all_are is_attribute c.as_slice.result.now
    ∙ ap (are_all is_attribute) c.as_slice.ensures
