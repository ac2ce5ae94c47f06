-- Whether a leader's ballot is promised by a majority.
use Rattle.std.specs.Prelude.{ℕ, Bool, false, nat_lt, List, Option, Some, None}
use Rattle.ballots.specs.Ballot.{is_majority}
use Rattle.ballots.specs.Messages.{Packet}
use Rattle.paxos.specs.Step.{Leader, cover_heard}
use Rattle.proposer.specs.Terms.{Leading, cover_of}

-- of a majority the leader has heard a window of its ballot: it covers a position above those that were learnt when it began
abbrev pub is_followed : (members : ℕ) → List Packet → Option Leader → Bool
is_followed n heard None = false
is_followed n heard (Some l) = is_majority n (λ m. nat_lt l.base (cover_heard heard l m))

-- the same of what a proposer has
abbrev pub is_followed_of : (members : ℕ) → Leading → Bool
is_followed_of n l = is_majority n (λ m. nat_lt l.base (cover_of l m))
