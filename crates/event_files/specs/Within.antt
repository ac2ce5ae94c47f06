-- The members that an event file speaks of are the group's.
use Rattle.std.specs.Prelude.{◌≤◌, ℕ}
use Rattle.events.specs.declared.event.Event.{Event}
use Rattle.events.specs.declared.event.Event.TheVariants as event
use Rattle.events.specs.declared.event.Step.{Step}
use Rattle.events.specs.declared.event.Step.TheVariants as step
use Rattle.event_files.specs.declared.command.Command.{Command}
use Rattle.event_files.specs.declared.command.Command.TheVariants.{Happens, DeliverAll}
use Rattle.event_files.specs.declared.first.Failure.{Failure}

-- one of so many members
abbrev pub IsMember : (members : ℕ) → ℕ → Type 0
IsMember members member = (1 ≤ member) × (member ≤ members)

-- a step that begins a ballot, or keeps a learnt value, is one of theirs
abbrev pub IsStepOf : (members : ℕ) → Step → Type 0
IsStepOf members (step.Deliver message) = Unit {0}
IsStepOf members (step.Begin member) = IsMember members member
IsStepOf members (step.Keep member) = IsMember members member

-- what happens to a member happens to one of them
abbrev pub IsEventOf : (members : ℕ) → Event → Type 0
IsEventOf members (event.Deliver message) = Unit {0}
IsEventOf members (event.Tick member tick) = IsMember members member
IsEventOf members (event.Submit member request) = IsMember members member
IsEventOf members (event.StopIn stops kept) = IsStepOf members stops
IsEventOf members (event.Stop member) = IsMember members member
IsEventOf members (event.Start member) = IsMember members member

-- a command to one of them, or to all
abbrev pub IsCommandOf : (members : ℕ) → Command → Type 0
IsCommandOf members (Happens e) = IsEventOf members e
IsCommandOf members DeliverAll = Unit {0}

-- a write of one of them, from the first on
abbrev pub IsFailureOf : (members : ℕ) → Failure → Type 0
IsFailureOf members failure = IsMember members failure.member × (1 ≤ failure.write)
