-- The messages of members and clients.
-- Prepare, Promise, Accept and Accepted are those of the two phases of "Paxos Made Simple", section 2.2; the others are our own choice.
use Rattle.std.specs.Prelude.{ℕ, zero, suc, List, [], ◌∷◌, ◌++◌, map}
use Rattle.ballots.specs.Terms.{Request, Question}
use Rattle.ballots.specs.Replies.{Answered, answered}
use Rattle.ballots.specs.declared.ballot.Ballot.{Ballot}
use Rattle.ballots.specs.declared.value.Vote.{Vote}
use Rattle.ballots.specs.declared.value.Entry.{Entry}
use Rattle.ballots.specs.declared.value.Pair.{Pair}
use Rattle.ballots.specs.declared.reply.Reply.{Reply as Outcome}
use Rattle.ballots.specs.declared.message.Message.{Message}
use Rattle.ballots.specs.declared.message.Message.TheVariants as message
use Rattle.ballots.specs.declared.message.Window.{Window as WindowOfCode}

-- A member's promise of a ballot for the positions from .. covered: its votes there are these entries and no others.
pub record Window : Type 0 where
  pub ballot : Ballot
  pub from : ℕ
  pub covered : ℕ
  pub entries : List Entry

-- what a message says; the last six kinds are between clients and members
pub data Body : Type 0 where
  Prepare : (ballot : Ballot) (from : ℕ) → Body
  Promise : (window : Window) → Body
  Accept : (position : ℕ) (vote : Vote) → Body
  Accepted : (position : ℕ) (vote : Vote) → Body
  Chosen : (pairs : List Pair) → Body
  CatchUp : (from : ℕ) → Body
  Submit : (request : Request) → Body
  Reply : (client : ℕ) (number : ℕ) (reply : Outcome) → Body
  Ask : (question : Question) → Body
  Answer : (client : ℕ) (number : ℕ) (applied : ℕ) (answer : Answered) → Body
  Behind : (client : ℕ) (number : ℕ) (applied : ℕ) → Body
  Elsewhere : (client : ℕ) (number : ℕ) (member : ℕ) → Body

-- a message on its way from a member to a member; 0 stands for the clients
pub record Packet : Type 0 where
  pub sender : ℕ
  pub target : ℕ
  pub body : Body

-- the message from this sender to this target
abbrev pub packet : (sender : ℕ) → Body → (target : ℕ) → Packet
packet sender body target = record { sender = sender; target = target; body = body }

-- 1 to n, rising
abbrev pub up_to : ℕ → List ℕ
up_to zero = []
up_to (suc n) = up_to n ++ suc n ∷ []

-- one message to each of n members, the sender too
abbrev pub to_all : ℕ → (sender : ℕ) → Body → List Packet
to_all n sender body = map (packet sender body) (up_to n)

-- what a window of the code says
abbrev pub window_of : WindowOfCode → Window
window_of w = record { ballot = w.ballot; from = w.from; covered = w.covered; entries = w.entries.items }

-- what a message of the code says
abbrev pub body_of : Message → Body
body_of (message.Prepare ballot from) = Prepare ballot from
body_of (message.Promise window) = Promise (window_of window)
body_of (message.Accept position vote) = Accept position vote
body_of (message.Accepted position vote) = Accepted position vote
body_of (message.Chosen pairs) = Chosen pairs.items
body_of (message.CatchUp from) = CatchUp from
body_of (message.Submit request) = Submit request
body_of (message.Reply client number reply) = Reply client number reply
body_of (message.Ask question) = Ask question
body_of (message.Answer client number applied answer) = Answer client number applied (answered answer)
body_of (message.Behind client number applied) = Behind client number applied
body_of (message.Elsewhere client number member) = Elsewhere client number member
