use Rattle.std.proofs.Common.{List, subst, sym}
use Rattle.pending.specs.declared.primitive.Primitive.{Primitive}
use Rattle.update_words.specs.Ready.{IsReady}
use Rattle.update_words.proofs.Lists.{other_pushed}
use Rattle.update_words.proofs.desk.Desk.push_other.Goals as goal

pub returns-in-Ok : goal.returns-in-Ok
returns-in-Ok c = record {
  stored = c.requires.ready.stored;
  brings = other_pushed c.args.self.now.forest.next c.args.self.now.next c.args.brought.next c.args.self.now.other c.push.new.self c.args.self.now.list c.args.brought.primitive c.requires.ready.brings c.requires.brings c.in-Ok.ensures.added;
}

pub returns-in-Err : goal.returns-in-Err
returns-in-Err c =
    let P : List Primitive → Type 0 = λ l. IsReady (record c.args.self.now { other = l }) in
    subst P (sym c.in-Err.ensures.refused) c.requires.ready
