-- Values and votes, and when two are the same.
use Rattle.std.specs.Prelude.{◌+◌, ◌≤◌, ℕ, Bool, true, false, ◌&&◌, List, [], ◌∷◌}
use Rattle.ballots.specs.Terms.{Request, same_request, same_number}
use Rattle.ballots.specs.Ballot.{same_ballot}
use Rattle.ballots.specs.declared.value.Value.{Value}
use Rattle.ballots.specs.declared.value.Value.TheVariants.{NoOp, Request as Of}
use Rattle.ballots.specs.declared.value.Vote.{Vote}

-- positions are 1 to this (our own choice); each is an instance of the algorithm, as in section 3 of "Paxos Made Simple"
unfoldable pub positions : ℕ
positions = 1000000

-- a position that there is
abbrev pub IsPosition : ℕ → Type 0
IsPosition p = (1 ≤ p) × (p ≤ positions)

-- the votes, or learnt values, that a message has at most (our own choice)
abbrev pub most_entries : ℕ
most_entries = 8

-- the proposals that a leader has open at most (our own choice)
abbrev pub most_open : ℕ
most_open = 16

-- positions rise from `least` on, and are at most the last that there is
abbrev pub IsRising : (least : ℕ) → List ℕ → Type 0
IsRising least [] = Unit {0}
IsRising least (p ∷ ps) = (least ≤ p) × (p ≤ positions) × IsRising (p + 1) ps

-- the two are one value
abbrev pub same_value : Value → Value → Bool
same_value NoOp NoOp = true
same_value (Of a) (Of b) = same_request a b
same_value NoOp (Of b) = false
same_value (Of a) NoOp = false

-- the value is a request of this client and number
abbrev pub is_numbered : Request → Value → Bool
is_numbered q NoOp = false
is_numbered q (Of r) = same_number q r

-- the two are of one ballot and one value
abbrev pub same_vote : Vote → Vote → Bool
same_vote a b = same_ballot a.ballot b.ballot && same_value a.value b.value
