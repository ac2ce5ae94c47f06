-- What an event names, and what it is in the protocol.
use Rattle.std.specs.Prelude.{ℕ, Bool, true, ◌&&◌, nat_le, Option, Some, None}
use Rattle.std.specs.Option.{option_map_or}
use Rattle.events.specs.declared.event.Event.{Event}
use Rattle.events.specs.declared.event.Event.TheVariants as event
use Rattle.events.specs.declared.event.Step.TheVariants as step
use Rattle.member.specs.declared.input.Tick.TheVariants as tick
use Rattle.paxos.specs.World as protocol
use Rattle.paxos.specs.World.{Event as Happens}

-- the member that an event names
abbrev pub named : Event → Option ℕ
named (event.Deliver k) = None
named (event.Tick m t) = Some m
named (event.Submit m q) = Some m
named (event.StopIn (step.Deliver k) kept) = None
named (event.StopIn (step.Begin m) kept) = Some m
named (event.StopIn (step.Keep m) kept) = Some m
named (event.Stop m) = Some m
named (event.Start m) = Some m

-- whether it is one of so many, if there is one
abbrev pub is_for : (members : ℕ) → Event → Bool
is_for n e = option_map_or (λ m. nat_le 1 m && nat_le m n) (named e) true

-- the event of the protocol's world
abbrev pub event_of : Event → Happens
event_of (event.Deliver k) = protocol.Deliver k
event_of (event.Tick m tick.Begin) = protocol.Begin m
event_of (event.Tick m tick.Resend) = protocol.Resend m
event_of (event.Tick m tick.CatchUp) = protocol.CatchUp m
event_of (event.Tick m tick.Keep) = protocol.Keep m
event_of (event.Submit m q) = protocol.Submits m q
event_of (event.StopIn (step.Deliver k) kept) = protocol.StopInDeliver k kept
event_of (event.StopIn (step.Begin m) kept) = protocol.StopInBegin m kept
event_of (event.StopIn (step.Keep m) kept) = protocol.StopInKeep m kept
event_of (event.Stop m) = protocol.Stop m
event_of (event.Start m) = protocol.Start m
