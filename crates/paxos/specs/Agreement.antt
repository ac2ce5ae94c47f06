-- What is chosen, and what agreement is. What is chosen rests on the recorded votes alone, whatever algorithm leads to them.
use Rattle.std.specs.Prelude.{◌≡◌, ℕ, ◌<◌, ◌≤◌, Bool, true, length, Some}
use Rattle.paxos.specs.Lists.{at, Has}
use Rattle.ballots.specs.Ballot.{IsMajority}
use Rattle.ballots.specs.declared.ballot.Ballot.{Ballot}
use Rattle.ballots.specs.declared.value.Value.{Value}
use Rattle.ballots.specs.declared.value.Vote.{Vote}
use Rattle.ballots.specs.declared.value.Pair.{Pair}
use Rattle.paxos.specs.Knowledge.{learnt as learnt_at, numbered, news, values_to}
use Rattle.paxos.specs.Step.{Running}
use Rattle.paxos.specs.World.{Member, World, cast_by, told_to}

-- the member recorded the vote at the position
abbrev pub HasVoted : World → (member : ℕ) → (position : ℕ) → Vote → Type 0
HasVoted w m p vote = Has w.votes (cast_by m (record { position = p; vote = vote }))

-- one ballot has recorded votes of a majority for the value at the position ("Paxos Made Simple", section 2.2)
pub record IsChosen (w : World) (position : ℕ) (value : Value) : Type 0 where
  pub ballot : Ballot
  pub set : ℕ → Bool
  pub majority : IsMajority (length w.members) set
  pub voted : (m : ℕ) → set m ≡ true → HasVoted w m position (record { ballot = ballot; value = value })

-- the member was told that the value is chosen at the position
abbrev pub IsTold : World → (member : ℕ) → (position : ℕ) → Value → Type 0
IsTold w m p value = Has w.told (told_to m (record { position = p; value = value }))

-- a running member
pub record IsRunning (w : World) (member : ℕ) (u : Running) : Type 0 where
  pub is : Member
  pub there : at w.members member ≡ Some is
  pub running : is.running ≡ Some u

-- No position has two chosen values; what members have learnt and what their records keep as learnt they were told, and what they are
-- told is chosen; all positions that they have applied are learnt, so that members which applied as many positions applied the same
-- values.
pub record Agreement (w : World) : Type 0 where
  pub one_value : (p : ℕ) (a b : Value) → IsChosen w p a → IsChosen w p b → a ≡ b
  pub told : (m p : ℕ) (value : Value) → IsTold w m p value → IsChosen w p value
  pub told_one : (k m p : ℕ) (a b : Value) → IsTold w k p a → IsTold w m p b → a ≡ b
  pub learnt : (m p : ℕ) (u : Running) (value : Value) → IsRunning w m u → learnt_at (length w.members) p (news u.heard) ≡ Some value → IsTold w m p value
  pub kept : (m : ℕ) (x : Member) (e : Pair) → at w.members m ≡ Some x → Has (numbered 1 x.kept.learnt) e → IsTold w m e.position e.value
  pub applied : (m p : ℕ) (u : Running) → IsRunning w m u → 0 < p → p ≤ u.applied → (value : Value) × (learnt_at (length w.members) p (news u.heard) ≡ Some value)
  pub same_values : (k m j : ℕ) (u v : Running) → IsRunning w k u → IsRunning w m v → j ≤ u.applied → j ≤ v.applied → values_to (length w.members) (news u.heard) j ≡ values_to (length w.members) (news v.heard) j
