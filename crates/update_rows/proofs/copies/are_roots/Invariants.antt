use Rattle.std.specs.List.{AllWithin}
use Rattle.chosen_drafts.specs.Chosen.{IsRoot}
use Rattle.update_rows.proofs.copies.are_roots.Given as goal

abbrev pub invariant-loop-id : goal.invariant-loop-id
invariant-loop-id l = AllWithin (IsRoot l.forest.trees) l.ids 0 l.id-index
