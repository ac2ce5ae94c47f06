-- Ballots, their order, and majorities.
-- "Paxos Made Simple" (Lamport, 2001) calls a ballot a proposal number; that each proposer has numbers of its own is its section 2.5.
use Rattle.std.specs.Prelude.{ℕ, zero, suc, ◌+◌, ◌-◌, ◌*◌, ◌/◌, ◌%◌, ◌<◌, ◌≤◌, ◌^◌, Bool, cond, ◌&&◌, ◌||◌, ◌==◌, nat_lt}
use Rattle.ballots.specs.declared.ballot.Ballot.{Ballot}

-- rounds are 1 to this (our own choice)
unfoldable pub last_round : ℕ
last_round = 2 ^ 40 - 1

-- members are 1 to at most this (our own choice)
abbrev pub most_members : ℕ
most_members = 63

-- stands for none; below each ballot of a member
abbrev pub no_ballot : Ballot
no_ballot = record { round = 0; member = 0 }

-- the round decides first
abbrev pub below : Ballot → Ballot → Bool
below a b = nat_lt a.round b.round || (a.round == b.round && nat_lt a.member b.member)

-- the two are one ballot
abbrev pub same_ballot : Ballot → Ballot → Bool
same_ballot a b = a.round == b.round && a.member == b.member

-- a round and a member that there may be
abbrev pub IsBallot : Ballot → Type 0
IsBallot b = (1 ≤ b.round) × (b.round ≤ last_round) × (1 ≤ b.member) × (b.member ≤ most_members)

-- a ballot of one of n members
abbrev pub IsBallotOf : (members : ℕ) → Ballot → Type 0
IsBallotOf n b = IsBallot b × (b.member ≤ n)

-- how many of the members 1 to n are in the set
abbrev pub count : ℕ → (ℕ → Bool) → ℕ
count zero set = 0
count (suc n) set = cond (set (suc n)) 1 0 + count n set

-- more than half of n members (section 2.2: any two majorities have a member in common)
abbrev pub IsMajority : ℕ → (ℕ → Bool) → Type 0
IsMajority n set = n < 2 * count n set

-- the same as a test
abbrev pub is_majority : ℕ → (ℕ → Bool) → Bool
is_majority n set = nat_lt n (2 * count n set)

-- the set that a mask stands for: bit m - 1 is member m's
abbrev pub has_member : (mask : ℕ) → (member : ℕ) → Bool
has_member mask m = mask / 2 ^ (m - 1) % 2 == 1
