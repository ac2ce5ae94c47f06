use Rattle.update_words.specs.Ready.{IsReady}
use Rattle.update_words.proofs.opening.fill_documents.Given as goal

abbrev pub invariant-loop-name : goal.invariant-loop-name
invariant-loop-name l = IsReady l.desk
