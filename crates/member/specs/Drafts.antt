-- What a member is about to do, and when that is what its step says.
use Rattle.std.specs.Prelude.{◌≡◌, ◌≤◌, false, List, [], ◌∷◌, length, Option, Some}
use Rattle.ballots.specs.Messages.{Body, Promise as Promises, Chosen, Reply as Replies, Answer as Answers, Behind, Packet, body_of}
use Rattle.ballots.specs.declared.value.Value.{Value}
use Rattle.acceptor.specs.Drafts.{IsDue as MayBeWritten}
use Rattle.ballots.specs.declared.ballot.Ballot.{Ballot}
use Rattle.ballots.specs.declared.message.Message.{Message}
use Rattle.ballots.specs.declared.message.Message.TheVariants as message
use Rattle.ballots.specs.declared.value.Pair.{Pair}
use Rattle.ballots.specs.Values.{most_entries}
use Rattle.proposer.specs.declared.sends.Asked.{Asked}
use Rattle.proposer.specs.Hearing.{IsUnchanged as IsSameProposer}
use Rattle.member.specs.declared.outcome.Send.{Send}
use Rattle.member.specs.declared.outcome.Target.{Target}
use Rattle.member.specs.declared.outcome.Target.TheVariants as target
use Rattle.learner.specs.Changes.{IsAsWas, HasRoom, IsDue as MayBeHeard, change_of}
use Rattle.learner.specs.Hearing.{HasHeard}
use Rattle.learner.specs.Terms.{Learner}
use Rattle.paxos.specs.Application.{Application}
use Rattle.paxos.specs.Knowledge.{Heard, news}
use Rattle.paxos.specs.Records.{Write, Nothing as NoWrite, written}
use Rattle.paxos.specs.Step.{Leader, Running, Effect, may_begin, yields}
use Rattle.proposer.specs.declared.draft.Change.{Change as ProposerChange}
use Rattle.proposer.specs.declared.draft.Change.TheVariants as of_proposer
use Rattle.proposer.specs.declared.draft.News.{News as Taken}
use Rattle.proposer.specs.Knowing.{Knows}
use Rattle.proposer.specs.Submitting.{IsReady as MayBeLed}
use Rattle.proposer.specs.Taking.{HasTaken}
use Rattle.proposer.specs.Terms.{Leading, Proposer, proposing}
use Rattle.member.specs.declared.draft.Change.{Change}
use Rattle.member.specs.declared.draft.Change.TheVariants.{Nothing, Answer, Begin, Promise, News, Submit, Keep}
use Rattle.member.specs.declared.draft.Draft.{Draft}
use Rattle.member.specs.Steps.{Member, Input, Begins, IsHeard, IsThis, IsUnanswered, all_packets, effect_of}

-- what a change writes
abbrev pub write_in : Change → Write
write_in Nothing = NoWrite
write_in (Answer a b) = a.write
write_in (Begin a p) = a.write
write_in (Promise p) = NoWrite
write_in (News l p) = NoWrite
write_in (Submit p) = NoWrite
write_in (Keep a) = a.write

-- The parts may make the change: there is room for it, and it may be written.
abbrev pub MayBeMade : {R : Type 0} → Member R → Change → Type 0
MayBeMade x Nothing = Unit {0}
MayBeMade x (Answer a b) = MayBeWritten x.acceptor.kept a.write
MayBeMade x (Begin a p) = MayBeWritten x.acceptor.kept a.write × MayBeLed x.proposer p.change
MayBeMade x (Promise p) = MayBeLed x.proposer p.change
MayBeMade x (News l p) = HasRoom x.learner l.change × MayBeHeard l.change × MayBeLed x.proposer p.change
MayBeMade x (Submit p) = MayBeLed x.proposer p.change
MayBeMade x (Keep a) = MayBeWritten x.acceptor.kept a.write

-- They may make what was drafted.
abbrev pub IsReady : {R : Type 0} → Member R → Draft → Type 0
IsReady x d = MayBeMade x d.change

-- a proposer has made its change
pub record HasMade (x : Proposer) (change : ProposerChange) (y : Proposer) : Type 0 where
  pub nothing : change ≡ of_proposer.Nothing → y ≡ x
  pub taken : (l : Leading) (told : Taken) → x.lead ≡ Some l → change ≡ of_proposer.Take told
      → (z : Leading) × (y ≡ record { members = x.members; member = x.member; lead = Some z }) × HasTaken l told z
  pub begun : (lead : Leading) → change ≡ of_proposer.Begin lead → y ≡ record { members = x.members; member = x.member; lead = Some lead }
  pub proposed : (l : Leading) (value : Value) → x.lead ≡ Some l → change ≡ of_proposer.Propose value
      → y ≡ record { members = x.members; member = x.member; lead = Some (proposing value l) }

-- what a change makes of a proposer
abbrev pub Leads : Proposer → Change → Proposer → Type 0
Leads x Nothing y = y ≡ x
Leads x (Answer a b) y = (heard : List Packet) (leader : Option Leader) → Knows heard leader x → Knows heard (yields b leader) y
Leads x (Begin a p) y = HasMade x p.change y
Leads x (Promise p) y = HasMade x p.change y
Leads x (News l p) y = HasMade x p.change y
Leads x (Submit p) y = HasMade x p.change y
Leads x (Keep a) y = y ≡ x

-- what a change makes of a learner
abbrev pub Learns : Learner → Change → Learner → Type 0
Learns x (News l p) y = (heard : List Heard) (h : Heard) → HasHeard heard x → l.change ≡ change_of x h → HasHeard (h ∷ heard) y
Learns x change y = y ≡ x

-- A member has made a change: each of its parts has made its own.
pub record IsMade {R : Type 0} (old : Member R) (change : Change) (new : Member R) : Type 0 where
  pub members : new.members ≡ old.members
  pub number : new.number ≡ old.number
  pub kept : new.acceptor.kept ≡ written (write_in change) old.acceptor.kept
  pub runs : new.acceptor.is_stopped ≡ false
  pub leads : Leads old.proposer change new.proposer
  pub learns : Learns old.learner change new.learner

-- A draft plans a step: it writes, sends and tells what the step does, and its change makes proposer and learner know what is known then.
pub record Plans {R : Type 0} (e : Effect) (x : Member R) (d : Draft) : Type 0 where
  pub running : Running
  pub runs : e.running ≡ Some running
  pub write : e.write ≡ write_in d.change
  pub knows : (y : Proposer) → Leads x.proposer d.change y → Knows running.heard running.leader y
  pub hears : (y : Learner) → Learns x.learner d.change y → HasHeard (news running.heard) y
  pub sends : (y : Proposer) → Leads x.proposer d.change y → e.sends ≡ all_packets x.members x.number d.sends.items
  pub tells : e.tells ≡ d.tells.items

-- A draft is what comes of an input: it plans the member's step, whichever member of a world this is.
pub record IsDrafted {R : Type 0} (i : Input) (x : Member R) (d : Draft) : Type 0 where
  pub heard : IsHeard x.members i
  pub plans : (app : Application) (u : Running) → IsUnanswered app x.members u i → IsThis u x
      → Plans (effect_of app x.members x.number x.acceptor.kept u i) x d

-- no ballot begins: positions or rounds are spent
abbrev pub IsSpent : {R : Type 0} → Member R → Running → Input → Type 0
IsSpent x u Begins = may_begin x.members x.acceptor.kept u ≡ false
IsSpent x u i = ⊥

-- nothing that shows has changed
pub record IsUnchanged {R : Type 0} (old new : Member R) : Type 0 where
  pub members : new.members ≡ old.members
  pub number : new.number ≡ old.number
  pub acceptor : new.acceptor ≡ old.acceptor
  pub proposer : IsSameProposer old.proposer new.proposer
  pub learner : IsAsWas old.learner new.learner

-- the message, to one target
abbrev pub send_to : Target → Message → Send
send_to to message = record { to = to; message = message }

-- a Prepare to one member
abbrev pub prepare_send : Ballot → Asked → Send
prepare_send b a = send_to (target.One a.member) (message.Prepare b a.from)

-- an Accept to all
abbrev pub accept_send : Ballot → Pair → Send
accept_send b e = send_to target.All (message.Accept e.position (record { ballot = b; value = e.value }))

-- a message of at most 8 entries, and none that says what is applied
abbrev pub IsShort : Body → Type 0
IsShort (Promises w) = length w.entries ≤ most_entries
IsShort (Chosen pairs) = length pairs ≤ most_entries
IsShort (Replies client number reply) = ⊥
IsShort (Answers client number applied answer) = ⊥
IsShort (Behind client number applied) = ⊥
IsShort body = Unit {0}

-- each message is
abbrev pub AreShort : List Send → Type 0
AreShort [] = Unit {0}
AreShort (s ∷ ss) = IsShort (body_of s.message) × AreShort ss

-- the draft sends just this, tells nothing and changes this
pub record Says (d : Draft) (sends : List Send) (change : Change) : Type 0 where
  pub sends_are : d.sends.items ≡ sends
  pub tells_are : d.tells.items ≡ []
  pub change_is : d.change ≡ change
