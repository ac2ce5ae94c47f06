-- What a server holds until its wire is given it.
use Rattle.std.specs.Prelude.{List}
use Rattle.std.specs.List.{flat_map}
use Rattle.node.specs.Nodes.{posted}
use Rattle.server_steps.specs.Addressed.{addressed}
use Rattle.server_steps.specs.Moves.{Place}
use Rattle.server_steps.specs.declared.hold.HeldOutbox.{HeldOutbox}
use Rattle.wires.specs.Wires.{Carried}

-- the datagrams of what a step sent: of each message one to the address of each of its targets
abbrev pub datagrams_of : {D : Type 0} → Place D → HeldOutbox D → List (Carried D)
datagrams_of p h = addressed p.end p.peers h.client (posted h.members h.member h.outbox.sent.items)

-- those of all that is held, in order
abbrev pub held_by : {D : Type 0} → Place D → List (HeldOutbox D) → List (Carried D)
held_by p hs = flat_map (datagrams_of p) hs
