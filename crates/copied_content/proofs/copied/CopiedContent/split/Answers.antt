use Rattle.std.proofs.Common.{◌∙◌, ap, sym, refl}
use Rattle.data_model.specs.Tree.{all_of}
use Rattle.query_meaning.specs.Content.{is_attribute, is_other}
use Rattle.copied_content.proofs.Attributes.{those_more, all_others}
use Rattle.copied_content.proofs.copied.CopiedContent.split.Goals as goal

pub loop-tree-preserved : goal.loop-tree-preserved
loop-tree-preserved c = record {
  attributes = ap all_of c.in_ok-split.ensures.attributes ∙ those_more is_attribute _ c.loop-tree.yielded c.loop-tree.split.attributes.items c.in-Some.tree refl c.loop-tree.invariant.attributes;
  others = ap all_of c.in_ok-split.ensures.others ∙ those_more is_other _ c.loop-tree.yielded c.loop-tree.split.others.items c.in-Some.tree refl c.loop-tree.invariant.others;
}

pub returns-then-are_all_others-clause-attributes : goal.returns-then-are_all_others-clause-attributes
returns-then-are_all_others-clause-attributes c = ap all_of c.new.ensures.items ∙ sym (all_others c.args.self (sym c.are_all_others.ensures ∙ c.if-are_all_others.true)).0

pub returns-then-are_all_others-clause-others : goal.returns-then-are_all_others-clause-others
returns-then-are_all_others-clause-others c = c.into_trees.ensures ∙ sym (all_others c.args.self (sym c.are_all_others.ensures ∙ c.if-are_all_others.true)).1
