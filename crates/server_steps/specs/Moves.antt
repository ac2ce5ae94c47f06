-- What a server does: its node takes steps, one after the other, and its wire is given what they send.
use Rattle.std.specs.Prelude.{◌≡◌, ◌⊎◌, ℕ, zero, suc, ◌+◌, Bool, true, false, List, [], ◌∷◌, ◌++◌, map, flat_map, Option, Some, None, slice_get}
use Rattle.acceptor.specs.Steps.{FlushFailed}
use Rattle.ballots.specs.Messages.{Packet}
use Rattle.ballots.specs.Terms.{Setup}
use Rattle.ballots.specs.declared.value.Value.{Value}
use Rattle.member.specs.Steps.{Input, Hears, ticked}
use Rattle.member.specs.declared.input.Tick.{Tick}
use Rattle.member.specs.declared.input.Tick.TheVariants as tick
use Rattle.messages.specs.Reading.{Fails, Gives, datagram_read}
use Rattle.messages.specs.Spelling.{Datagram, spelling}
use Rattle.messages.specs.declared.fault.WireFault.{WireFault}
use Rattle.node.specs.Nodes.{HasFailed, IsFrom, IsStrange, IsUnchanged, RunsAs, Steps, posted}
use Rattle.node.specs.declared.outbox.Outbox.{Outbox}
use Rattle.paxos.specs.Application.{Application}
use Rattle.paxos.specs.Lists.{Has}
use Rattle.paxos.specs.Records.{Record}
use Rattle.paxos.specs.Step.{Running, may_begin}
use Rattle.server_steps.specs.Addressed.{addressed}
use Rattle.server_steps.specs.declared.seat.Seat.{Seat}
use Rattle.wires.specs.Wires.{Carried}

-- the end of the wire at which a server stands, and the addresses of all members, in member order
pub record Place (D : Type 0) : Type 0 where
  pub end : ℕ
  pub peers : List D

-- what a server does: it takes a datagram as it comes, or takes one again that came before, or its node ticks
pub data Deed (D : Type 0) : Type 0 where
  Took : Carried D → Deed D
  TookAgain : Carried D → Deed D
  Ticked : Tick → Deed D

-- what it does, how its node sits afterwards, and what its wire is given
pub record Move (R A D : Type 0) : Type 0 where
  pub deed : Deed D
  pub after : Seat R A
  pub sent : List (Carried D)

-- the datagram that comes with it, if one does
abbrev pub came_with : {D : Type 0} → Deed D → List (Carried D)
came_with (Took d) = d ∷ []
came_with (TookAgain d) = []
came_with (Ticked t) = []

-- the datagrams that come with these deeds, in order
abbrev pub came_by : {D : Type 0} → List (Deed D) → List (Carried D)
came_by ds = flat_map came_with ds

-- The deeds of a turn: a datagram is taken as it comes, or the node ticks, since the wire was waited for in vain. Whatever follows, no other datagram is
-- taken as it comes.
abbrev pub IsTurn : {D : Type 0} → List (Deed D) → Type 0
IsTurn {D} ds = (rest : List (Deed D)) × (came_by rest ≡ []) × (((d : Carried D) × (ds ≡ Took d ∷ rest)) ⊎ (ds ≡ Ticked tick.Resend ∷ Ticked tick.CatchUp ∷ rest))

-- the deeds of so many turns, one after the other
pub data AreTurns {D : Type 0} : ℕ → List (Deed D) → Type 0 where
  no_turn : AreTurns 0 []
  one_more : (n : ℕ) (ds es : List (Deed D)) → AreTurns n ds → IsTurn es → AreTurns (n + 1) (ds ++ es)

-- a ballot begins among these deeds only where that was told
abbrev pub BeginsIfTold : {D : Type 0} → (is_told : Bool) → List (Deed D) → Type 0
BeginsIfTold is_told ds = Has ds (Ticked tick.Begin) → is_told ≡ true

-- what was done, in order
abbrev pub deeds_of : {R A D : Type 0} → List (Move R A D) → List (Deed D)
deeds_of {R} {A} {D} ms = map (λ (m : Move R A D). m.deed) ms

-- the datagrams that the wire is given, in order
abbrev pub given_in : {R A D : Type 0} → List (Move R A D) → List (Carried D)
given_in {R} {A} {D} ms = flat_map (λ (m : Move R A D). m.sent) ms

-- how the node sits at the end
abbrev pub seat_after : {R A D : Type 0} → Seat R A → List (Move R A D) → Seat R A
seat_after x [] = x
seat_after x (m ∷ ms) = seat_after m.after ms

-- a client sent it (0), or it came from the address of the member that sent it
abbrev pub IsFromSender : {D : Type 0} → (eq : D → D → Bool) → (peers : List D) → (sender : ℕ) → (from : D) → Type 0
IsFromSender eq peers zero from = Unit {0}
IsFromSender {D} eq peers (suc m) from = (peer : D) × (slice_get peers m ≡ Some peer) × (eq from peer ≡ true)

-- it claims to be sent by a member, and did not come from that member's address
abbrev pub IsFromElsewhere : {D : Type 0} → (eq : D → D → Bool) → (peers : List D) → (bytes : List ℕ) → (from : D) → Type 0
IsFromElsewhere {D} eq peers bytes from = (m : ℕ) × (slice_get bytes 8 ≡ Some (suc m)) × ((peer : D) → slice_get peers m ≡ Some peer → eq from peer ≡ false)

-- The bytes are no message to this node: none at all, or of another group, from or about a member that there is not, or of a kind that goes
-- to clients.
abbrev pub IsNoMessage : Setup → List ℕ → Type 0
IsNoMessage s bytes = ((f : WireFault) × (datagram_read bytes ≡ Fails f)) ⊎ ((d : Datagram) × (bytes ≡ spelling d) × (datagram_read bytes ≡ Gives d []) × IsStrange s d)

module _ {R A : Type 0} (has_applied : List (List ℕ) → List Value → A → Type 0) (app : List (List ℕ) → Application) (failed : R → ℕ) where
  -- Nothing that shows has changed at the node, and memory was refused to nothing.
  pub record Stays (old new : Seat R A) : Type 0 where
    pub node : IsUnchanged has_applied failed old.node new.node
    pub lost : new.has_lost ≡ old.has_lost

  -- Nothing that shows has changed at the node, and what came is lost, since memory was refused.
  pub record Loses (old new : Seat R A) : Type 0 where
    pub node : IsUnchanged has_applied failed old.node new.node
    pub lost : new.has_lost ≡ true

  -- The node has taken the step of an input; of its messages just the spellings are sent, each to its target's address, or to the client's.
  pub record Moves {D : Type 0} (p : Place D) (client : Option D) (i : Input) (old new : Seat R A) (sent : List (Carried D)) : Type 0 where
    pub outbox : Outbox
    pub steps : Steps has_applied (app old.node.setup.names) i old.node new.node outbox
    pub lost : new.has_lost ≡ old.has_lost
    pub sends : sent ≡ addressed p.end p.peers client (posted old.node.setup.members old.node.setup.member outbox.sent.items)

  -- The node was handed a datagram, and this was sent: it took the step of the message that the datagram spells, or it heard nothing, for one of
  -- three reasons, and sent nothing.
  pub data Takes {D : Type 0} (eq : D → D → Bool) (p : Place D) (d : Carried D) (old new : Seat R A) (sent : List (Carried D)) : Type 0 where
    heard : (k : Packet) → IsFrom old.node.setup d.bytes k → IsFromSender eq p.peers k.sender d.peer → Moves p (Some d.peer) (Hears k) old new sent → Takes eq p d old new sent
    no_message : IsNoMessage old.node.setup d.bytes → Stays old new → sent ≡ [] → Takes eq p d old new sent
    from_elsewhere : IsFromElsewhere eq p.peers d.bytes d.peer → Stays old new → sent ≡ [] → Takes eq p d old new sent
    lost : Loses old new → sent ≡ [] → Takes eq p d old new sent

  -- The node ticked, and this was sent; or it can begin no ballot, or memory was refused.
  pub data Ticks {D : Type 0} (p : Place D) (t : Tick) (old new : Seat R A) (sent : List (Carried D)) : Type 0 where
    ticked_so : Moves p None (ticked t) old new sent → Ticks p t old new sent
    spent : ((u : Running) → RunsAs has_applied u old.node → (t ≡ tick.Begin) × (may_begin old.node.setup.members old.node.member.acceptor.kept u ≡ false)) → Stays old new → sent ≡ [] → Ticks p t old new sent
    missed : Loses old new → sent ≡ [] → Ticks p t old new sent

  -- It was done, where these datagrams had come before.
  abbrev pub IsDone : {D : Type 0} → (eq : D → D → Bool) → Place D → (before : List (Carried D)) → (old : Seat R A) → Move R A D → Type 0
  IsDone eq p before old m = elim m.deed as (λ deed. Type 0) [
    | Took d ↦ Takes eq p d old m.after m.sent
    | TookAgain d ↦ Has before d × Takes eq p d old m.after m.sent
    | Ticked t ↦ Ticks p t old m.after m.sent
  ]

  -- These were done one after the other, each from where the one before it led.
  abbrev pub AreDone : {D : Type 0} → (eq : D → D → Bool) → Place D → (before : List (Carried D)) → (old : Seat R A) → List (Move R A D) → Type 0
  AreDone eq p before old [] = Unit {0}
  AreDone eq p before old (m ∷ ms) = IsDone eq p before old m × AreDone eq p (before ++ came_with m.deed) m.after ms

  -- The node's store has failed in a step, or in a flush: then a crash leaves what one before the flush did, or the record with all that was written.
  -- Or it had failed before. The node has stopped.
  pub data Halts (stands : R → Record → Record → Type 0) (is_kept : R → Type 0) (base : R → Record → Type 0) (leaves : R → Record → Record → Type 0) (old new : Seat R A) : Type 0 where
    fails : (i : Input) → HasFailed stands is_kept failed has_applied (app old.node.setup.names) i old.node new.node → Halts stands is_kept base leaves old new
    flush_fails : FlushFailed base leaves is_kept failed old.node.member.acceptor new.node.member.acceptor → Halts stands is_kept base leaves old new
    had_stopped : old.node.member.acceptor.is_stopped ≡ true → IsUnchanged has_applied failed old.node new.node → Halts stands is_kept base leaves old new
