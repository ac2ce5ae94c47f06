-- One more character is written.
use Rattle.values.proofs.Escapes.{one-more}
use Rattle.values.proofs.print.push_characters.Goals as goal

pub loop-c-preserved : goal.loop-c-preserved
loop-c-preserved c = one-more c.args.out.now c.loop-c.out c.push_escaped.new.out c.loop-c.yielded c.in-Some.c c.loop-c.invariant c.in_ok-push_escaped.ensures
