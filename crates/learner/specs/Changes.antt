-- What a message that is heard changes in a learner.
use Rattle.std.specs.Prelude.{◌≡◌, ◌≤◌, ◌||◌, ◌==◌, ℕ, Bool, if◌then◌else◌, List, [], ◌∷◌, map, None, is_none, is_some}
use Rattle.std.specs.List.{All, filter}
use Rattle.ballots.specs.Ballot.{is_majority, most_members}
use Rattle.ballots.specs.declared.value.Vote.{Vote}
use Rattle.ballots.specs.declared.value.Pair.{Pair}
use Rattle.paxos.specs.Lists.{Has}
use Rattle.paxos.specs.Knowledge.{Heard, AcceptedBy, ChosenAre, first, pair_of, value_at}
use Rattle.position_map.specs.Slots.{HasSlot}
use Rattle.ballots.specs.Values.{IsPosition}
use Rattle.learner.specs.Terms.{Learner, Tally, learnt_of, open_of}
use Rattle.learner.specs.Hearing.{AreDistinct, is_tallied}
use Rattle.learner.specs.Polls.{HasTally, IsAdded}

-- nothing; one more acceptance is tallied; values are learnt, and their positions' tallies dropped
pub data Change : Type 0 where
  Nothing : Change
  Counts : (member : ℕ) (position : ℕ) (vote : Vote) → Change
  Learns : (pairs : List Pair) → Change

-- the members tallied for the vote at the position, and this one
abbrev pub with_member : Learner → (position : ℕ) → Vote → (member : ℕ) → ℕ → Bool
with_member l p vote m = λ k. m == k || is_tallied (open_of l) p vote k

-- the pairs at positions that are not learnt
abbrev pub not_learnt : List Pair → List Pair → List Pair
not_learnt learnt pairs = filter (λ (e : Pair). is_none (value_at e.position learnt)) pairs

-- what a message changes
abbrev pub change_of : Learner → Heard → Change
change_of l (AcceptedBy m p vote) =
    if is_some (value_at p (learnt_of l)) then Nothing
    else (if is_majority l.members (with_member l p vote m) then Learns (pair_of p vote.value ∷ []) else Counts m p vote)
change_of l (ChosenAre pairs) = Learns (not_learnt (learnt_of l) pairs)

-- the positions of pairs, in their order
abbrev pub positions_in : List Pair → List ℕ
positions_in pairs = map (λ (e : Pair). e.position) pairs

-- the positions that a change learns
abbrev pub positions_of : Change → List ℕ
positions_of Nothing = []
positions_of (Counts m p vote) = []
positions_of (Learns pairs) = positions_in pairs

-- a member of at most 63
abbrev pub IsMember : ℕ → Type 0
IsMember m = (1 ≤ m) × (m ≤ most_members)

-- the numbers of a change are those of members and positions
abbrev pub IsDue : Change → Type 0
IsDue Nothing = Unit {0}
IsDue (Counts m p vote) = IsMember m × IsPosition p
IsDue (Learns pairs) = All (λ (e : Pair). IsPosition e.position) pairs

-- there is room for what a change adds
abbrev pub HasRoom : Learner → Change → Type 0
HasRoom l Nothing = Unit {0}
HasRoom l (Counts m p vote) = HasTally p vote l.tallies
HasRoom l (Learns pairs) = All (λ (e : Pair). HasSlot e.position l.slots) pairs

-- nothing but the room is changed
pub record IsAsWas (old new : Learner) : Type 0 where
  pub members : new.members ≡ old.members
  pub learnt : learnt_of new ≡ learnt_of old
  pub tallies : open_of new ≡ open_of old

-- the tallies of the pairs' positions were taken away, and no others
pub record AreForgotten (pairs : List Pair) (ts us : List Tally) : Type 0 where
  pub tallied : (q : ℕ) (v : Vote) (m : ℕ) → value_at q pairs ≡ None → is_tallied us q v m ≡ is_tallied ts q v m
  pub from : (t : Tally) → Has us t → Has ts t × (value_at t.position pairs ≡ None)
  pub distinct : AreDistinct ts → AreDistinct us

-- an acceptance was tallied, and nothing else changed
pub record HasCounted (m p : ℕ) (vote : Vote) (old new : Learner) : Type 0 where
  pub members : new.members ≡ old.members
  pub learnt : learnt_of new ≡ learnt_of old
  pub tallies : IsAdded m p vote (open_of old) (open_of new)

-- the values of the pairs were learnt and their positions' tallies dropped, and nothing else changed
pub record HasLearnt (pairs : List Pair) (old new : Learner) : Type 0 where
  pub members : new.members ≡ old.members
  pub learnt : (q : ℕ) → value_at q (learnt_of new) ≡ first (value_at q pairs) (value_at q (learnt_of old))
  pub tallies : AreForgotten pairs (open_of old) (open_of new)

-- a change was made, and no other
abbrev pub IsChanged : Learner → Change → Learner → Type 0
IsChanged old Nothing new = IsAsWas old new
IsChanged old (Counts m p vote) new = HasCounted m p vote old new
IsChanged old (Learns pairs) new = HasLearnt pairs old new
