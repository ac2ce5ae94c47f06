-- What comes to a site, and what its faults say of it.
use Rattle.std.specs.Prelude.{◌≡◌, ℕ, false, [], List}
use Rattle.ballots.specs.Messages.{Packet}
use Rattle.ballots.specs.Terms.{Setup}
use Rattle.member.specs.Steps.{Input, Hears, ticked}
use Rattle.member.specs.declared.input.Tick.TheVariants.{Begin}
use Rattle.messages.specs.Reading.{Fails, Gives, datagram_read}
use Rattle.messages.specs.Spelling.{Datagram, spelling}
use Rattle.messages.specs.declared.fault.WireFault.{WireFault}
use Rattle.node.specs.Nodes.{IsFrom, IsStrange, Node}
use Rattle.paxos.specs.Step.{Running, may_begin}
use Rattle.readers.specs.declared.input.Input.{Input as InputOfCode}
use Rattle.readers.specs.declared.input.Input.TheVariants as input

-- the bytes spell a message to the node, and this input of the protocol is that it comes
abbrev pub Spells : Setup → (bytes : List ℕ) → Input → Type 0
Spells s bytes i = (k : Packet) × IsFrom s bytes k × (i ≡ Hears k)

-- it is this input of the protocol: the message that the bytes spell, or the tick
abbrev pub Comes : Setup → InputOfCode → Input → Type 0
Comes s (input.Bytes bytes) i = Spells s bytes.now i
Comes s (input.Tick tick) i = i ≡ ticked tick

-- bytes are no message, for this reason
abbrev pub IsNoMessage : InputOfCode → WireFault → Type 0
IsNoMessage (input.Bytes bytes) fault = datagram_read bytes.now ≡ Fails fault
IsNoMessage (input.Tick tick) fault = ⊥

-- bytes spell a message of another group, from or about a member that there is not, or of a kind that goes to clients
abbrev pub IsOfStranger : Setup → InputOfCode → Type 0
IsOfStranger s (input.Bytes bytes) = (d : Datagram) × (bytes.now ≡ spelling d) × (datagram_read bytes.now ≡ Gives d []) × IsStrange s d
IsOfStranger s (input.Tick tick) = ⊥

-- a ballot is to begin, and positions or rounds are spent
abbrev pub CannotBegin : {R A : Type 0} → Node R A → Running → InputOfCode → Type 0
CannotBegin x u (input.Bytes bytes) = ⊥
CannotBegin x u (input.Tick tick) = (tick ≡ Begin) × (may_begin x.setup.members x.member.acceptor.kept u ≡ false)
