use Rattle.std.proofs.Common.{List, length}
use Rattle.ballots.specs.declared.value.Value.{Value}
use Rattle.paxq_run.proofs.Plays.{Going}
use Rattle.paxq_run.specs.Sites.{Shows}
use Rattle.paxq_run.proofs.run.play.Given as goal

abbrev pub invariant-loop-command : goal.invariant-loop-command
invariant-loop-command g l =
    (values : List Value) → Shows g.J.Opening.names values l.initial.site l.initial.reader.sight
    → Going g.J.Opening.names values l.site l.reader.sight (g.W.Write.contents l.initial.output) (g.W.Write.contents l.output) l.initial.script.commands l.script.commands

abbrev pub decreases-loop-command : goal.decreases-loop-command
decreases-loop-command g l = length l.script.commands
