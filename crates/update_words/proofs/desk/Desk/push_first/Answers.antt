use Rattle.std.proofs.Common.{List, subst, sym}
use Rattle.pending.specs.declared.primitive.Primitive.{Primitive}
use Rattle.update_words.specs.Ready.{IsReady}
use Rattle.update_words.proofs.Lists.{first_pushed}
use Rattle.update_words.proofs.desk.Desk.push_first.Goals as goal

pub returns-in-Ok : goal.returns-in-Ok
returns-in-Ok c = record {
  stored = c.requires.ready.stored;
  brings = first_pushed c.args.self.now.forest.next c.args.self.now.next c.args.brought.next c.args.self.now.list c.push.new.self c.args.self.now.other c.args.brought.primitive c.requires.ready.brings c.requires.brings c.in-Ok.ensures.added;
}

pub returns-in-Err : goal.returns-in-Err
returns-in-Err c =
    let P : List Primitive → Type 0 = λ l. IsReady (record c.args.self.now { list = l }) in
    subst P (sym c.in-Err.ensures.refused) c.requires.ready
