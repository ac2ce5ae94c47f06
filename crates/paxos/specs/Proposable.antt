-- Why a proposal may be issued: P2c of "Paxos Made Simple", section 2.2, at each position.
use Rattle.std.specs.Prelude.{◌≡◌, ℕ, ◌≤◌, Bool, true, false, List, length, Option, Some, ◌⊎◌}
use Rattle.paxos.specs.Lists.{Has}
use Rattle.ballots.specs.Ballot.{below, IsMajority}
use Rattle.ballots.specs.declared.ballot.Ballot.{Ballot}
use Rattle.ballots.specs.declared.value.Value.{Value}
use Rattle.ballots.specs.declared.value.Vote.{Vote}
use Rattle.ballots.specs.Messages.{Window, Promise, Accept, Packet}
use Rattle.paxos.specs.Records.{vote_at}
use Rattle.paxos.specs.World.{World}
use Rattle.paxos.specs.Agreement.{HasVoted}

-- among the messages is a promise of the ballot by the member, whose window covers the position and reports this there
pub record HasPromised (messages : List Packet) (member : ℕ) (ballot : Ballot) (position : ℕ) (report : Option Vote) : Type 0 where
  pub packet : Packet
  pub window : Window
  pub sent : Has messages packet
  pub sender : packet.sender ≡ member
  pub body : packet.body ≡ Promise window
  pub of_ballot : window.ballot ≡ ballot
  pub from : window.from ≤ position
  pub covered : position ≤ window.covered
  pub reports : vote_at position window.entries ≡ report

-- no member of the set has accepted a proposal below the ballot at the position
abbrev pub IsFree : World → (ℕ → Bool) → Ballot → (position : ℕ) → Type 0
IsFree w set b p = (m : ℕ) (vote : Vote) → set m ≡ true → HasVoted w m p vote → below vote.ballot b ≡ false

-- The value is that of the highest proposal below the ballot among all that members of the set have accepted at the position; one of
-- them reported it in its promise.
pub record IsOfHighest (w : World) (set : ℕ → Bool) (ballot : Ballot) (position : ℕ) (value : Value) : Type 0 where
  pub highest : Vote
  pub same_value : value ≡ highest.value
  pub lower : below highest.ballot ballot ≡ true
  pub member : ℕ
  pub in_set : set member ≡ true
  pub accepted : HasVoted w member position highest
  pub reported : HasPromised w.sent member ballot position (Some highest)
  pub most : (m : ℕ) (vote : Vote) → set m ≡ true → HasVoted w m position vote → below vote.ballot ballot ≡ true → below highest.ballot vote.ballot ≡ false

-- P2c: a majority promised the ballot at the position, and is free there or bound to the value
pub record IsProposable (w : World) (position : ℕ) (vote : Vote) : Type 0 where
  pub set : ℕ → Bool
  pub majority : IsMajority (length w.members) set
  pub promised : (m : ℕ) → set m ≡ true → (report : Option Vote) × HasPromised w.sent m vote.ballot position report
  pub free_or_bound : IsFree w set vote.ballot position ⊎ IsOfHighest w set vote.ballot position vote.value

-- an Accept was sent: the proposal was issued
pub record IsIssued (w : World) (position : ℕ) (vote : Vote) : Type 0 where
  pub packet : Packet
  pub sent : Has w.sent packet
  pub body : packet.body ≡ Accept position vote

-- each proposal was issued for that reason, and a ballot has one value at a position
pub record P2c (w : World) : Type 0 where
  pub proposable : (p : ℕ) (vote : Vote) → IsIssued w p vote → IsProposable w p vote
  pub one_value : (p : ℕ) (a b : Vote) → IsIssued w p a → IsIssued w p b → a.ballot ≡ b.ballot → a.value ≡ b.value
