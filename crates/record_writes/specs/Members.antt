-- The members whose ballots a record of a group has.
use Rattle.std.specs.Prelude.{◌≤◌, ℕ, List, [], ◌∷◌}
use Rattle.records.specs.declared.group.Write.{Write}
use Rattle.records.specs.declared.group.Write.TheVariants as write

-- its ballot is of one of so many members
abbrev pub HasMember : (members : ℕ) → Write → Type 0
HasMember n (write.Promise ballot) = ballot.member ≤ n
HasMember n (write.Vote position vote) = vote.ballot.member ≤ n
HasMember n (write.Learnt position value) = Unit {0}

-- so of each of them
abbrev pub HasMembers : (members : ℕ) → List Write → Type 0
HasMembers n [] = Unit {0}
HasMembers n (w ∷ ws) = HasMember n w × HasMembers n ws
