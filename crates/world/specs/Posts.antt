-- Bytes, each kept once for all their targets, and what is sent, by number.
use Rattle.std.specs.Prelude.{◌<◌, ℕ, suc, ◌==◌, if◌then◌else◌, List, [], ◌∷◌, ◌++◌, map, length, Some, None, slice_get}
use Rattle.ballots.specs.Messages.{CatchUp, Packet, packet}
use Rattle.member.specs.declared.outcome.Target.{Target}
use Rattle.messages.specs.Reading.{Read, Gives, Fails, datagram_read}
use Rattle.messages.specs.Spelling.{Datagram}
use Rattle.node.specs.Nodes.{targets}
use Rattle.node.specs.declared.outbox.Sent.{Sent}
use Rattle.world.specs.declared.mail.Delivery.{Delivery}
use Rattle.world.specs.declared.mail.Mail.{Mail}

-- what nobody says: there is no position 0
abbrev pub unsaid : (target : ℕ) → Packet
unsaid t = packet 0 (CatchUp 0) t

-- what a datagram says to a target, if it is one of the group; with bytes left over it says nothing
abbrev pub said : (group target : ℕ) → Read Datagram → Packet
said g t (Gives d []) = if d.group == g then packet d.sender d.body t else unsaid t
said g t (Gives d (b ∷ rest)) = unsaid t
said g t (Fails why) = unsaid t

-- what bytes say to a target
abbrev pub packet_in : (group : ℕ) → List ℕ × ℕ → Packet
packet_in g p = said g p.1 (datagram_read p.0)

-- what a delivery's bytes say; where there are none, nothing
abbrev pub packet_of : (group : ℕ) → List Sent → Delivery → Packet
packet_of g messages d = elim (slice_get messages d.message) as (λ o. Packet) [
  | Some s ↦ packet_in g (s.bytes.items, d.target)
  | None ↦ unsaid d.target
]

-- all messages that were sent, by their numbers
abbrev pub sent_in : (group : ℕ) → Mail → List Packet
sent_in g x = map (packet_of g x.messages.items) x.deliveries.items

-- each delivery's message is one of so many
abbrev pub AreThere : (messages : ℕ) → List Delivery → Type 0
AreThere n [] = Unit {0}
AreThere n (d ∷ ds) = (d.message < n) × AreThere n ds

-- each delivery's message is there
abbrev pub IsWhole : Mail → Type 0
IsWhole x = AreThere (length x.messages.items) x.deliveries.items

-- the message of that index to a member, 0 for the client
abbrev pub delivery : (message target : ℕ) → Delivery
delivery message target = record { message = message; target = target }

-- the deliveries of a message that one of n members sends
abbrev pub deliveries : (members sender message : ℕ) → Target → List Delivery
deliveries n m i t = map (delivery i) (targets n m t)

-- the deliveries of messages, the first of which has that index
abbrev pub all_deliveries : (members sender first : ℕ) → List Sent → List Delivery
all_deliveries n m i [] = []
all_deliveries n m i (s ∷ sent) = deliveries n m i s.to ++ all_deliveries n m (suc i) sent
