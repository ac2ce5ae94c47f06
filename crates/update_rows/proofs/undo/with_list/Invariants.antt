use Rattle.update_rows.specs.Ready.{IsListed}
use Rattle.update_rows.proofs.undo.with_list.Given as goal

abbrev pub invariant-loop : goal.invariant-loop
invariant-loop l = IsListed l.listed
