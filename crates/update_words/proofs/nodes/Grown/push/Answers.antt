use Rattle.std.proofs.lemmas.Result.{on_ok_weaker}
use Rattle.update_words.proofs.Counts.{attribute_more, child_more}
use Rattle.update_words.proofs.nodes.Grown.push.Goals as goal

pub returns-then-is_attribute : goal.returns-then-is_attribute
returns-then-is_attribute c =
    on_ok_weaker c.push_to.result (attribute_more c.args.self.now.next c.args.below.next c.args.self.now.attributes.items c.push_to.new.list.items c.args.self.now.children.items c.args.below.attributes.items c.args.below.children.items c.new-tree.result c.args.content c.new-tree.ensures c.requires.later c.requires.below) c.push_to.ensures

pub returns : goal.returns
returns c =
    on_ok_weaker c.push_to-2.result (child_more c.args.self.now.next c.args.below.next c.args.self.now.children.items c.push_to-2.new.list.items c.args.self.now.attributes.items c.args.below.attributes.items c.args.below.children.items c.new-tree.result c.args.content c.new-tree.ensures c.requires.later c.requires.below) c.push_to-2.ensures
