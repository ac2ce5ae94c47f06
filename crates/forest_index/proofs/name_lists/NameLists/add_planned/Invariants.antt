use Rattle.std.proofs.Common.{ℕ, ◌<◌, get_or}
use Rattle.forest_index.specs.Named.{Extends}
use Rattle.forest_index.proofs.Named.{IsNamed}
use Rattle.forest_index.proofs.name_lists.NameLists.add_planned.Given as goal

abbrev pub invariant-loop-id : goal.invariant-loop-id
invariant-loop-id l = record {
  kept : Extends l.fn.self l.self;
  named : (j : ℕ) → j < l.id-index → IsNamed l.plan l.rows l.self (get_or l.id-items j 0);
}
