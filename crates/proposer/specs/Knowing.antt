-- When a proposer knows what a member heard, and when it has taken its part of the member's step.
use Rattle.std.specs.Prelude.{◌≡◌, ◌≤◌, ℕ, suc, false, nat_lt, if◌then◌else◌, List, [], ◌∷◌, ◌++◌, map, flat_map, Option, Some, None}
use Rattle.ballots.specs.declared.ballot.Ballot.{Ballot}
use Rattle.ballots.specs.declared.value.Pair.{Pair}
use Rattle.ballots.specs.declared.value.Value.{Value}
use Rattle.ballots.specs.Messages.{Packet, Prepare, packet, up_to}
use Rattle.ballots.specs.Values.{positions}
use Rattle.paxos.specs.Knowledge.{pair_of}
use Rattle.paxos.specs.Lists.{Has}
use Rattle.paxos.specs.Step.{Leader, Running, Effect, accepts, cover_heard, report_heard, is_learnt_heard}
use Rattle.paxos.specs.Proposing.{HasStopped}
use Rattle.proposer.specs.Terms.{Leading, Proposer, cover_of, report_of, is_learnt_of, turn_of}
use Rattle.proposer.specs.declared.sends.Sends.{Sends}
use Rattle.proposer.specs.declared.sends.Asked.{Asked}

-- a leader that heard this: how far each member covers, and from its next position on the highest reports and what is learnt; nothing
-- is learnt where a proposal is open
pub record IsLed (members : ℕ) (heard : List Packet) (l : Leader) (x : Leading) : Type 0 where
  pub ballot : x.ballot ≡ l.ballot
  pub base : x.base ≡ l.base
  pub next : x.next ≡ l.next
  pub proposals : x.proposals ≡ l.proposals
  pub covers : (m : ℕ) → 1 ≤ m → m ≤ members → cover_of x m ≡ cover_heard heard l m
  pub reports : (p : ℕ) → l.next ≤ p → report_of x p ≡ report_heard heard l p
  pub learnt : (p : ℕ) → l.next ≤ p → is_learnt_of x p ≡ is_learnt_heard members heard p
  pub unlearnt : (e : Pair) → Has l.proposals e → is_learnt_heard members heard e.position ≡ false

-- the proposer leads where the member does, and knows what it heard
abbrev pub Knows : List Packet → Option Leader → Proposer → Type 0
Knows heard None x = x.lead ≡ None
Knows heard (Some l) x = (lead : Leading) × (x.lead ≡ Some lead) × IsLed x.members heard l lead

-- a Prepare of the ballot
abbrev pub prepare_of : (self : ℕ) → Ballot → Asked → Packet
prepare_of m b a = packet m (Prepare b a.from) a.member

-- the Prepares of what a leader says
abbrev pub prepares_of : (self : ℕ) → Sends → List Packet
prepares_of m s = map (prepare_of m s.ballot) s.prepares.items

-- its Accepts, each to all members
abbrev pub accepts_of : (members : ℕ) → (self : ℕ) → Sends → List Packet
accepts_of n m s = accepts n m s.ballot s.accepts.items

-- the Prepares, then the Accepts; nothing where it doesn't lead
abbrev pub prepares_first : (members : ℕ) → (self : ℕ) → Option Sends → List Packet
prepares_first n m None = []
prepares_first n m (Some s) = prepares_of m s ++ accepts_of n m s

-- the Accepts, then the Prepares
abbrev pub accepts_first : (members : ℕ) → (self : ℕ) → Option Sends → List Packet
accepts_first n m None = []
accepts_first n m (Some s) = accepts_of n m s ++ prepares_of m s

-- The proposer has taken its part of the step: it knows what the member has heard then, and the step sends these messages.
pub record TookPart (step : Effect) (says : List Packet) (x : Proposer) : Type 0 where
  pub running : Running
  pub runs : step.running ≡ Some running
  pub knows : Knows running.heard running.leader x
  pub sends : step.sends ≡ says

-- Proposing has stopped, for a reason, at the next position of a leader.
abbrev pub IsStopped : Proposer → Type 0
IsStopped x = (lead : Leading) → x.lead ≡ Some lead → HasStopped x.members (cover_of lead) (report_of lead) (is_learnt_of lead) (turn_of lead)

-- a member whose windows don't cover all is asked for the next position on
abbrev pub asked_of : Leading → (member : ℕ) → List Asked
asked_of l k = if nat_lt (cover_of l k) positions then record { member = k; from = suc (cover_of l k) } ∷ [] else []

-- all that a leader says again: its open proposals, and each member is asked on
pub record IsAgain (members : ℕ) (l : Leading) (s : Sends) : Type 0 where
  pub ballot_is : s.ballot ≡ l.ballot
  pub open_ones : s.accepts.items ≡ l.proposals
  pub asked : s.prepares.items ≡ flat_map (asked_of l) (up_to members)

-- the Accept of the value at the next position, and nothing else
pub record IsAcceptOf (value : Value) (l : Leading) (s : Sends) : Type 0 where
  pub ballot_is : s.ballot ≡ l.ballot
  pub no_prepares : s.prepares.items ≡ []
  pub one_accept : s.accepts.items ≡ pair_of l.next value ∷ []
