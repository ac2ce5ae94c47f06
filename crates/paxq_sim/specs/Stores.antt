-- The stores of a group's members, whose writes fail as a file says.
use Rattle.std.specs.Prelude.{ℕ, Bool, false, ◌==◌, if◌then◌else◌, List, [], ◌∷◌, ◌++◌, map}
use Rattle.records.specs.Script.{Script}
use Rattle.ballots.specs.Messages.{up_to}
use Rattle.event_files.specs.declared.first.Failure.{Failure}
use Rattle.paxos.specs.Records.{empty_record}

-- the writes of a member that fail, in the order of the file
abbrev pub plan_of : (member : ℕ) → List Failure → List (ℕ × Bool)
plan_of m [] = []
plan_of m (f ∷ fs) = (if f.member == m then (f.write, f.kept) ∷ [] else []) ++ plan_of m fs

-- a member's store, which nobody has written
abbrev pub store_of : List Failure → (member : ℕ) → Script
store_of failures m = record { kept = empty_record; plan = plan_of m failures; writes = 0; failures = 0; passes = false }

-- the stores of so many members
abbrev pub stores_of : (members : ℕ) → List Failure → List Script
stores_of n failures = map (store_of failures) (up_to n)
