use Rattle.std.proofs.Common.{◌≡◌, ◌++◌, take}
use Rattle.tracked_drafts.proofs.nodes.note.Given as goal

-- the first ones are noted
abbrev pub invariant-loop-id : goal.invariant-loop-id
invariant-loop-id l = l.nodes.keys ≡ l.fn.nodes.keys ++ take l.id-index l.ids
