-- What an acceptor keeps over stops, and what it writes: sections 2.2 and 2.5 of "Paxos Made Simple".
use Rattle.std.specs.Prelude.{ℕ, zero, suc, Bool, true, false, nat_lt, ◌==◌, if◌then◌else◌, List, [], ◌∷◌, ◌++◌, take, Option, Some, None}
use Rattle.ballots.specs.Ballot.{below, no_ballot}
use Rattle.ballots.specs.declared.ballot.Ballot.{Ballot}
use Rattle.ballots.specs.Values.{same_vote, positions, most_entries}
use Rattle.ballots.specs.declared.value.Value.{Value}
use Rattle.ballots.specs.declared.value.Vote.{Vote}
use Rattle.ballots.specs.declared.value.Entry.{Entry}
use Rattle.ballots.specs.Messages.{Window}

-- the highest ballot promised; the last vote at each position that has one, by rising position; the values learnt at 1, 2, .. and kept
pub record Record : Type 0 where
  pub promise : Ballot
  pub votes : List Entry
  pub learnt : List Value

-- no promise, no votes, and nothing kept
abbrev pub empty_record : Record
empty_record = record { promise = no_ballot; votes = []; learnt = [] }

-- the vote at a position, if there is one
abbrev pub vote_at : (position : ℕ) → List Entry → Option Vote
vote_at p [] = None
vote_at p (e ∷ es) = if p == e.position then Some e.vote else vote_at p es

-- the votes with this one at its position
abbrev pub with_vote : (position : ℕ) → Vote → List Entry → List Entry
with_vote p vote [] = record { position = p; vote = vote } ∷ []
with_vote p vote (e ∷ es) =
    if nat_lt p e.position then record { position = p; vote = vote } ∷ e ∷ es
    else (if p == e.position then record { position = p; vote = vote } ∷ es else e ∷ with_vote p vote es)

-- the votes from a position on
abbrev pub since : (from : ℕ) → List Entry → List Entry
since from [] = []
since from (e ∷ es) = if nat_lt e.position from then since from es else e ∷ es

-- up to where the first k of the votes are all that there is: the k-th one's position, if there are more
abbrev pub covered_by : (k : ℕ) → List Entry → ℕ
covered_by zero es = positions
covered_by (suc k) [] = positions
covered_by (suc zero) (e ∷ []) = positions
covered_by (suc zero) (e ∷ f ∷ es) = e.position
covered_by (suc (suc k)) (e ∷ es) = covered_by (suc k) es

-- the window that answers a Prepare from a position on: the votes there, lowest first, at most 8 (our own choice)
abbrev pub window : Ballot → (from : ℕ) → List Entry → Window
window b from votes = record { ballot = b; from = from; covered = covered_by most_entries (since from votes); entries = take most_entries (since from votes) }

-- One write of a record. A vote is written together with the promise of its ballot; a learnt value goes behind the last one, so that
-- no position before it is left out.
pub data Write : Type 0 where
  Nothing : Write
  NewPromise : (ballot : Ballot) → Write
  NewVote : (position : ℕ) (vote : Vote) → Write
  NewLearnt : (value : Value) → Write

-- the write changes the record
abbrev pub writes : Write → Bool
writes Nothing = false
writes (NewPromise b) = true
writes (NewVote p vote) = true
writes (NewLearnt value) = true

-- the record after the write
abbrev pub written : Write → Record → Record
written Nothing r = r
written (NewPromise b) r = record { promise = b; votes = r.votes; learnt = r.learnt }
written (NewVote p vote) r = record { promise = vote.ballot; votes = with_vote p vote r.votes; learnt = r.learnt }
written (NewLearnt value) r = record { promise = r.promise; votes = r.votes; learnt = r.learnt ++ value ∷ [] }

-- a Prepare that is answered: a higher ballot is promised
abbrev pub prepare_write : Record → Ballot → Write
prepare_write r b = if below r.promise b then NewPromise b else Nothing

-- this very vote stands there
abbrev pub has_vote : Option Vote → Vote → Bool
has_vote None vote = false
has_vote (Some old) vote = same_vote old vote

-- an Accept that is answered: the vote is recorded, unless that very vote stands there
abbrev pub accept_write : Record → (position : ℕ) → Vote → Write
accept_write r p vote = if has_vote (vote_at p r.votes) vote then Nothing else NewVote p vote
