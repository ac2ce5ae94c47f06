use Rattle.std.proofs.Common.{◌≡◌, drop}
use Rattle.position_map.specs.Slots.{filled}
use Rattle.proposer.specs.Views.{AreRising}
use Rattle.proposer.proofs.Merging.{Rooms}
use Rattle.proposer.proofs.reported.reserve_entries.Given as goal

abbrev pub invariant-loop-entry : goal.invariant-loop-entry
invariant-loop-entry l = AreRising 1 (drop l.entry-index l.entries) × (filled l.reports ≡ filled l.fn.reports) × Rooms l.entries (drop l.entry-index l.entries) l.reports
