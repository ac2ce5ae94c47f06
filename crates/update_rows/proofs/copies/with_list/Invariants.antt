use Rattle.update_rows.specs.Ready.{AreReady}
use Rattle.update_rows.proofs.copies.with_list.Given as goal

abbrev pub invariant-loop : goal.invariant-loop
invariant-loop l = AreReady l.copies
