use Rattle.update_words.proofs.Lists.{pushed_alone}
use Rattle.update_rows.proofs.copies.Copies.push.Goals as goal

pub returns-in-Ok : goal.returns-in-Ok
returns-in-Ok c = record {
  apart = c.requires.ready.apart;
  roots = c.requires.ready.roots;
  brings = pushed_alone c.args.self.now.forest.next c.args.self.now.next c.args.brought.next c.args.self.now.list c.push.new.self c.args.brought.primitive c.requires.ready.brings c.requires.brings c.in-Ok.ensures.added;
}
