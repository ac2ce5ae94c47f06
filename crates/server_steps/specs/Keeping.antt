-- What a node's record keeps of what the node has learnt.
use Rattle.std.specs.Prelude.{ℕ, ◌≤◌, List, length}
use Rattle.ballots.specs.declared.value.Value.{Value}
use Rattle.node.specs.Nodes.{Node, RunsAs}
use Rattle.paxos.specs.Knowledge.{news, prefix}
use Rattle.paxos.specs.Step.{Running}

-- how many values its record keeps as learnt: those at the positions from 1 on
abbrev pub kept_by : {R A : Type 0} → Node R A → ℕ
kept_by x = length x.member.acceptor.kept.learnt

-- the first so many values, where the one node had learnt them, are in the record of the other
abbrev pub FirstAreKept : {R A : Type 0} → (has_applied : List (List ℕ) → List Value → A → Type 0) → (count : ℕ) → (x y : Node R A) → Type 0
FirstAreKept has_applied count x y = (u : Running) → RunsAs has_applied u x → count ≤ prefix x.setup.members (news u.heard) → count ≤ kept_by y

-- what the one node had learnt without a gap is in the record of the other
abbrev pub LearntIsKept : {R A : Type 0} → (has_applied : List (List ℕ) → List Value → A → Type 0) → (x y : Node R A) → Type 0
LearntIsKept has_applied x y = (u : Running) → RunsAs has_applied u x → prefix x.setup.members (news u.heard) ≤ kept_by y
