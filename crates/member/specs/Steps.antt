-- What a member is, when it is one of a world, and when it has taken a step of the protocol.
use Rattle.std.specs.Prelude.{◌≡◌, ℕ, not, ◌==◌, false, List, [], ◌∷◌, map, filter, flat_map, Some, None}
use Rattle.ballots.specs.Messages.{Body, Submit, Ask, Packet, packet, up_to, to_all, body_of}
use Rattle.ballots.specs.declared.value.Value.{Value}
use Rattle.acceptor.specs.Steps.{Acceptor}
use Rattle.learner.specs.Hearing.{HasHeard}
use Rattle.learner.specs.Terms.{Learner}
use Rattle.paxos.specs.Application.{Application}
use Rattle.paxos.specs.Knowledge.{news}
use Rattle.paxos.specs.Records.{Record, written}
use Rattle.paxos.specs.Step.{Running, Effect, values_of, on_message, on_begin, on_resend, on_catch_up_tick, on_keep}
use Rattle.paxos.specs.WellFormed.{IsMessage, IsState}
use Rattle.proposer.specs.Knowing.{Knows}
use Rattle.proposer.specs.Terms.{Proposer}
use Rattle.member.specs.declared.input.Input.{Input as InputOfCode}
use Rattle.member.specs.declared.input.Input.TheVariants as input
use Rattle.member.specs.declared.input.Tick.{Tick}
use Rattle.member.specs.declared.input.Tick.TheVariants as tick
use Rattle.member.specs.declared.outcome.Outcome.{Outcome}
use Rattle.member.specs.declared.outcome.Send.{Send}
use Rattle.member.specs.declared.outcome.Target.TheVariants as target

-- how many members there are, which one it is, and its parts
pub record Member (R : Type 0) : Type 0 where
  pub members : ℕ
  pub number : ℕ
  pub acceptor : Acceptor R
  pub proposer : Proposer
  pub learner : Learner

-- A running member is this one: its learner and its proposer know what it heard since its start and what it leads, and its record and what
-- it leads are well formed. How much of what is learnt is applied is no matter of these parts.
pub record IsThis {R : Type 0} (u : Running) (x : Member R) : Type 0 where
  pub hears : HasHeard (news u.heard) x.learner
  pub knows : Knows u.heard u.leader x.proposer
  pub state : IsState x.members x.number x.acceptor.kept u
  pub runs : x.acceptor.is_stopped ≡ false

-- what comes to a member: a message, or a tick
pub data Input : Type 0 where
  Hears : (message : Packet) → Input
  Begins : Input
  Resends : Input
  CatchesUp : Input
  KeepsLearnt : Input

-- what comes by the clock
abbrev pub ticked : Tick → Input
ticked tick.Begin = Begins
ticked tick.Resend = Resends
ticked tick.CatchUp = CatchesUp
ticked tick.Keep = KeepsLearnt

-- what an input of the code says to the member of a number
abbrev pub input_of : (self : ℕ) → InputOfCode → Input
input_of m (input.Message sender message) = Hears (packet sender (body_of message.now) m)
input_of m (input.Tick t) = ticked t

-- the step that a member takes
abbrev pub effect_of : Application → (members : ℕ) → (self : ℕ) → Record → Running → Input → Effect
effect_of app n m r u (Hears k) = on_message app n m k r u
effect_of app n m r u Begins = on_begin n m r u
effect_of app n m r u Resends = on_resend n m u
effect_of app n m r u CatchesUp = on_catch_up_tick n m u
effect_of app n m r u KeepsLearnt = on_keep n r u

-- no question
abbrev pub IsNoQuestion : Body → Type 0
IsNoQuestion (Ask q) = ⊥
IsNoQuestion body = Unit {0}

-- a well-formed message
abbrev pub MayCome : (members : ℕ) → Input → Type 0
MayCome n (Hears k) = IsMessage n k
MayCome n i = Unit {0}

-- a well-formed message, and no question: questions are answered where requests are run
abbrev pub IsHeard : (members : ℕ) → Input → Type 0
IsHeard n (Hears k) = IsMessage n k × IsNoQuestion k.body
IsHeard n i = Unit {0}

-- no reply is kept for a request, if it is one
abbrev pub IsNew : Application → List Value → Body → Type 0
IsNew app values (Submit q) = app.reply values q.client q.number ≡ None
IsNew app values body = Unit {0}

-- No reply is kept for what comes: a request that was applied is answered where it was, and comes to none of these parts.
abbrev pub IsUnanswered : Application → (members : ℕ) → Running → Input → Type 0
IsUnanswered app n u (Hears k) = IsNew app (values_of n u) k.body
IsUnanswered app n u i = Unit {0}

-- what a member sends, as messages to one target each
abbrev pub packets_of : (members : ℕ) → (self : ℕ) → Send → List Packet
packets_of n m s = elim s.to as (λ t. List Packet) [
  | target.One k ↦ packet m (body_of s.message) k ∷ []
  | target.All ↦ to_all n m (body_of s.message)
  | target.Others ↦ map (packet m (body_of s.message)) (filter (λ k. not (k == m)) (up_to n))
  | target.Client ↦ packet m (body_of s.message) 0 ∷ []
]

abbrev pub all_packets : (members : ℕ) → (self : ℕ) → List Send → List Packet
all_packets n m sends = flat_map (packets_of n m) sends

-- The member has taken a step: its record is written, it runs on as the step says, and it sends and is told just what the step says.
pub record Took {R : Type 0} (e : Effect) (old new : Member R) (outcome : Outcome) : Type 0 where
  pub members : new.members ≡ old.members
  pub number : new.number ≡ old.number
  pub record_is : new.acceptor.kept ≡ written e.write old.acceptor.kept
  pub running : Running
  pub runs : e.running ≡ Some running
  pub is_this : IsThis running new
  pub sends : e.sends ≡ all_packets old.members old.number outcome.sends.items
  pub tells : e.tells ≡ outcome.tells.items
