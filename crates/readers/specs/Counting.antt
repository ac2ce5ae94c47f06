-- The first of the values that a member has applied, by their number.
use Rattle.std.specs.Prelude.{◌≡◌, ◌≤◌, ℕ, List, length}
use Rattle.ballots.specs.declared.value.Value.{Value}
use Rattle.paxos.specs.Knowledge.{news, values_to}
use Rattle.paxos.specs.Step.{Running}

-- These are as many of the values that a running member has learnt, from position 1 on, as it has applied or fewer.
abbrev pub AreFirst : (members : ℕ) → Running → (values : List Value) → Type 0
AreFirst n u values = (length values ≤ u.applied) × (values ≡ values_to n (news u.heard) (length values))
