-- What a learner and a leader know: read off the messages that a member heard since it started, the newest first.
use Rattle.std.specs.Prelude.{◌≡◌, ℕ, zero, suc, Bool, true, false, ◌&&◌, ◌==◌, nat_lt, nat_le, if◌then◌else◌, List, [], ◌∷◌, ◌++◌, map, flat_map, Option, Some, None, is_none, is_some, option_to_list}
use Rattle.std.specs.List.{list_any}
use Rattle.paxos.specs.Lists.{Has}
use Rattle.ballots.specs.Ballot.{below, same_ballot, IsMajority, is_majority}
use Rattle.ballots.specs.declared.ballot.Ballot.{Ballot}
use Rattle.ballots.specs.Values.{same_vote, positions}
use Rattle.ballots.specs.declared.value.Value.{Value}
use Rattle.ballots.specs.declared.value.Vote.{Vote}
use Rattle.ballots.specs.declared.value.Pair.{Pair}
use Rattle.ballots.specs.Messages.{Body, Promise, Accepted, Chosen, Window, Packet}
use Rattle.paxos.specs.Records.{vote_at}

-- Learning: sections 2.3 and 3 of "Paxos Made Simple".

-- what a learner hears: that a member accepted a vote at a position, or which values are chosen
pub data Heard : Type 0 where
  AcceptedBy : (member : ℕ) (position : ℕ) (vote : Vote) → Heard
  ChosenAre : (pairs : List Pair) → Heard

-- what a message from a member tells a learner, if anything
abbrev pub news_of : (sender : ℕ) → Body → List Heard
news_of m (Accepted p vote) = AcceptedBy m p vote ∷ []
news_of m (Chosen pairs) = ChosenAre pairs ∷ []
news_of m body = []

-- all that the messages tell, in their order
abbrev pub news : List Packet → List Heard
news packets = flat_map (λ (k : Packet). news_of k.sender k.body) packets

-- what was heard is that this member accepted this very vote at the position
abbrev pub is_accepted_by : (position : ℕ) → Vote → (member : ℕ) → Heard → Bool
is_accepted_by p vote m (AcceptedBy k q other) = k == m && (p == q && same_vote vote other)
is_accepted_by p vote m (ChosenAre pairs) = false

-- the members that were heard to have accepted this very vote at the position
abbrev pub accepted_by : (position : ℕ) → Vote → List Heard → (member : ℕ) → Bool
accepted_by p vote heard m = list_any (is_accepted_by p vote m) heard

-- the value told for the position, if there is one
abbrev pub value_at : (position : ℕ) → List Pair → Option Value
value_at p [] = None
value_at p (e ∷ es) = if p == e.position then Some e.value else value_at p es

-- the value at p that the newest of all that was heard completes, with a majority of one ballot, or tells
abbrev pub completed : (members : ℕ) → (position : ℕ) → (newest : Heard) → (heard : List Heard) → Option Value
completed n p (AcceptedBy m q vote) heard = if p == q && is_majority n (accepted_by q vote heard) then Some vote.value else None
completed n p (ChosenAre pairs) heard = value_at p pairs

-- the first value, or else the later one
abbrev pub first : {A : Type 0} → Option A → Option A → Option A
first (Some x) later = Some x
first None later = later

-- the value that is learnt at p: the first that was completed or told
abbrev pub learnt : (members : ℕ) → (position : ℕ) → List Heard → Option Value
learnt n p [] = None
learnt n p (h ∷ older) = first (learnt n p older) (completed n p h (h ∷ older))

-- Why a value may be learnt at a position: a majority was heard to have accepted it with one ballot, or it was told as chosen.
pub data IsHeard (members : ℕ) (position : ℕ) (heard : List Heard) (value : Value) : Type 0 where
  ByMajority : (vote : Vote) (same : vote.value ≡ value) (majority : IsMajority members (accepted_by position vote heard)) → IsHeard members position heard value
  AsChosen : (pairs : List Pair) (told : Has heard (ChosenAre pairs)) (there : value_at position pairs ≡ Some value) → IsHeard members position heard value

-- the value at the position
abbrev pub pair_of : (position : ℕ) → Value → Pair
pair_of p value = record { position = p; value = value }

-- the values, at the positions from p on
abbrev pub numbered : (p : ℕ) → List Value → List Pair
numbered p [] = []
numbered p (value ∷ values) = pair_of p value ∷ numbered (suc p) values

-- what a start tells a learner of what was kept: its values as chosen, or nothing
abbrev pub kept_news : List Pair → List Heard
kept_news [] = []
kept_news (e ∷ es) = ChosenAre (e ∷ es) ∷ []

-- what the newest tells of a position, if it was not learnt before
abbrev pub newly_at : (members : ℕ) → (newest : Heard) → (older : List Heard) → (position : ℕ) → List Pair
newly_at n h older p = if is_none (learnt n p older) then map (pair_of p) (option_to_list (learnt n p (h ∷ older))) else []

-- all that the newest tells, and that was not learnt before
abbrev pub newly : (members : ℕ) → (newest : Heard) → (older : List Heard) → List Pair
newly n (AcceptedBy m p vote) older = newly_at n (AcceptedBy m p vote) older p
newly n (ChosenAre pairs) older = flat_map (λ (e : Pair). newly_at n (ChosenAre pairs) older e.position) pairs

-- from p on, the last of at most k positions that pass the test one after the other (by cases, so that no more of them are tried)
abbrev pub last_of_run : (ℕ → Bool) → (k : ℕ) → (p : ℕ) → ℕ
last_of_run test zero p = p
last_of_run test (suc k) p = elim (test (suc p)) as (λ x. ℕ) [ true ↦ last_of_run test k (suc p) | false ↦ p ]

-- how many positions are learnt from 1 on without a gap
abbrev pub prefix : (members : ℕ) → List Heard → ℕ
prefix n heard = last_of_run (λ p. is_some (learnt n p heard)) positions 0

-- the learnt positions among k from p on
abbrev pub learnt_from : (members : ℕ) → List Heard → (p : ℕ) → (k : ℕ) → List Pair
learnt_from n heard p zero = []
learnt_from n heard p (suc k) = map (pair_of p) (option_to_list (learnt n p heard)) ++ learnt_from n heard (suc p) k

-- the values learnt at positions 1 to k
abbrev pub values_to : (members : ℕ) → List Heard → (k : ℕ) → List Value
values_to n heard zero = []
values_to n heard (suc k) = values_to n heard k ++ option_to_list (learnt n (suc k) heard)

-- Windows: section 3 of "Paxos Made Simple", one first phase for all positions above a base, in parts.

-- a window that a member promised
pub record Promised : Type 0 where
  pub member : ℕ
  pub window : Window

-- the window that a message promises, if it is a Promise
abbrev pub promised_of : (sender : ℕ) → Body → List Promised
promised_of m (Promise w) = record { member = m; window = w } ∷ []
promised_of m body = []

-- all windows that the messages promise, in their order
abbrev pub windows : List Packet → List Promised
windows packets = flat_map (λ (k : Packet). promised_of k.sender k.body) packets

-- a window of the ballot that leaves no gap after what is covered, and covers more
abbrev pub joins : Ballot → (covered : ℕ) → Window → Bool
joins b c w = same_ballot b w.ballot && (nat_le w.from (suc c) && nat_lt c w.covered)

-- how far the member's windows of the ballot cover the positions above the base without a gap
abbrev pub cover : Ballot → (base : ℕ) → (member : ℕ) → List Promised → ℕ
cover b base m [] = base
cover b base m (x ∷ older) =
    let c = cover b base m older in
    if x.member == m && joins b c x.window then x.window.covered else c

-- what a window says of a position inside it
abbrev pub report_in : (position : ℕ) → Window → Option Vote
report_in p w = if nat_le w.from p && nat_le p w.covered then vote_at p w.entries else None

-- the vote of the higher ballot; of two of one ballot, which no members send, the first
abbrev pub higher : Option Vote → Option Vote → Option Vote
higher None report = report
higher (Some a) None = Some a
higher (Some a) (Some b) = if below a.ballot b.ballot then Some b else Some a

-- the vote of the highest ballot at p in the windows that joined
abbrev pub reported : Ballot → (base : ℕ) → (position : ℕ) → List Promised → Option Vote
reported b base p [] = None
reported b base p (x ∷ older) =
    if joins b (cover b base x.member older) x.window
    then higher (reported b base p older) (report_in p x.window)
    else reported b base p older
