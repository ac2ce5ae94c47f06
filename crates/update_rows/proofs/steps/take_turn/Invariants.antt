use Rattle.update_words.specs.Ready.{IsReady}
use Rattle.update_rows.proofs.steps.take_turn.Given as goal

abbrev pub invariant-loop : goal.invariant-loop
invariant-loop l = IsReady l.desk
