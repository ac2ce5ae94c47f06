use Rattle.update_words.proofs.Lists.{later}
use Rattle.update_words.proofs.desk.Desk.raise_next.Goals as goal

pub returns : goal.returns
returns c = record {
  stored = c.requires.ready.stored;
  brings = later c.args.self.now.forest.next c.args.self.now.next c.args.next c.args.self.now.list c.args.self.now.other c.requires.ready.brings c.requires.later c.requires.bound;
}
