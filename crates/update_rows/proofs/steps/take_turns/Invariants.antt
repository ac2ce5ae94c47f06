use Rattle.update_words.specs.Ready.{IsReady}
use Rattle.update_rows.proofs.steps.take_turns.Given as goal

abbrev pub invariant-loop-turn : goal.invariant-loop-turn
invariant-loop-turn l = IsReady l.desk
