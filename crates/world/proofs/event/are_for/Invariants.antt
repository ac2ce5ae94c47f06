use Rattle.std.proofs.Common.{◌≡◌, drop}
use Rattle.std.specs.List.{list_all}
use Rattle.events.specs.Events.{is_for}
use Rattle.world.proofs.event.are_for.Given as goal

-- the events that were looked at name members that there are
abbrev pub invariant-loop-event : goal.invariant-loop-event
invariant-loop-event l = list_all (is_for l.members) (drop l.event-index l.events) ≡ list_all (is_for l.members) l.events
