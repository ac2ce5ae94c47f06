-- What a client hears about what it asked: what a datagram's bytes say to that client about that number, and nothing else.
use Rattle.std.specs.Prelude.{ℕ, ◌==◌, Bool, ◌&&◌, if◌then◌else◌, Option, Some, None}
use Rattle.ballots.specs.declared.request.RequestId.{RequestId}
use Rattle.ballots.specs.declared.reply.Reply.{Reply as Outcome}
use Rattle.ballots.specs.Replies.{Answered, answered}
use Rattle.ballots.specs.Messages.{Body, Reply, Answer, Behind, Elsewhere}
use Rattle.messages.specs.Spelling.{Datagram}
use Rattle.messages.specs.Reading.{Read, Gives, Fails}
use Rattle.clients.specs.declared.hearing.Heard.{Heard}
use Rattle.clients.specs.declared.hearing.Heard.TheVariants as heard

-- what a member says to a client
pub data HeardTerm : Type 0 where
  reply : Outcome → HeardTerm
  answer : (member applied : ℕ) → Answered → HeardTerm
  behind : (applied : ℕ) → HeardTerm
  elsewhere : (leader : ℕ) → HeardTerm

-- what is heard, of the code
abbrev pub heard_term : Heard → HeardTerm
heard_term (heard.Reply outcome) = reply outcome
heard_term (heard.Answer member applied said) = answer member applied (answered said)
heard_term (heard.Behind applied) = behind applied
heard_term (heard.Elsewhere leader) = elsewhere leader

-- of that client and number
abbrev pub is_of : RequestId → (client number : ℕ) → Bool
is_of id client number = id.client == client && id.number == number

abbrev pub where_of : RequestId → (client number : ℕ) → HeardTerm → Option HeardTerm
where_of id client number said = if is_of id client number then Some said else None

-- What a message from a member says about it. Messages between members, and what clients send, say nothing.
abbrev pub said_to : RequestId → (sender : ℕ) → Body → Option HeardTerm
said_to id sender (Reply client number outcome) = where_of id client number (reply outcome)
said_to id sender (Answer client number applied said) = where_of id client number (answer sender applied said)
said_to id sender (Behind client number applied) = where_of id client number (behind applied)
said_to id sender (Elsewhere client number leader) = where_of id client number (elsewhere leader)
said_to id sender body = None

-- what bytes say to a client of the group, as they read
abbrev pub heard_in : (group : ℕ) → RequestId → Read Datagram → Option HeardTerm
heard_in group id (Gives d rest) = if d.group == group then said_to id d.sender d.body else None
heard_in group id (Fails why) = None
