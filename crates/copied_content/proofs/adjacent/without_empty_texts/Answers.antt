use Rattle.std.proofs.Common.{ap, sym, ◌∙◌, rules}
use Rattle.std.specs.Prelude.{not}
use Rattle.std.proofs.lemmas.Fn.{filter_same}
use Rattle.data_model.specs.Tree.{TreeTerm, all_of}
use Rattle.pending.specs.Texts.{is_empty_text}
use Rattle.copied_content.proofs.Merging.{emptied}
use Rattle.copied_content.proofs.adjacent.without_empty_texts.Goals as goal

pub returns : goal.returns
returns c = ap all_of (filter_same _ (λ (t : TreeTerm). not (is_empty_text t.content)) _ (λ x b f' k. search rules) _ _ c.retain.ensures.filtered) ∙ sym (emptied c.args.trees.items)
