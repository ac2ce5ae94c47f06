use Rattle.update_words.proofs.Lists.{pushed_alone}
use Rattle.update_rows.proofs.undo.Listed.push.Goals as goal

pub returns-in-Ok : goal.returns-in-Ok
returns-in-Ok c = record {
  stored = c.requires.ready.stored;
  brings = pushed_alone c.args.self.now.forest.next c.args.self.now.next c.args.brought.next c.args.self.now.list c.push.new.self c.args.brought.primitive c.requires.ready.brings c.requires.brings c.in-Ok.ensures.added;
}
