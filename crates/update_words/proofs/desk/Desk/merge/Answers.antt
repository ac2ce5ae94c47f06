use Rattle.std.proofs.Common.{◌∙◌}
use Rattle.update_words.proofs.Lists.{appended, merged, not_merged}
use Rattle.update_words.proofs.desk.Desk.merge.Goals as goal

pub returns-in-Ok : goal.returns-in-Ok
returns-in-Ok c = record {
  stored = c.requires.stored;
  brings = merged c.args.self.now.forest.next c.args.self.now.next c.args.self.now.list c.args.self.now.other c.merge.new.self c.replace-other.new.dest c.requires.brings (appended c.args.self.now.list c.merge.new.self c.replace-other.result c.args.self.now.other c.in-Ok.ensures.added c.replace-other.ensures.value) (c.replace-other.ensures.after ∙ c.new.ensures);
}

pub returns-in-Err : goal.returns-in-Err
returns-in-Err c = record {
  stored = c.requires.stored;
  brings = not_merged c.args.self.now.forest.next c.args.self.now.next c.args.self.now.list c.args.self.now.other c.merge.new.self c.replace-other.new.dest c.requires.brings c.in-Err.ensures.refused (c.replace-other.ensures.after ∙ c.new.ensures);
}
