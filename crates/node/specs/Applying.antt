-- How far an application has applied what a member has learnt.
use Rattle.std.specs.Prelude.{◌≡◌, ◌≤◌, ◌<◌, ℕ, true, false, Bool, List}
use Rattle.ballots.specs.declared.value.Value.{Value}
use Rattle.member.specs.Steps.{IsThis, Member}
use Rattle.paxos.specs.Knowledge.{news, prefix, values_to}
use Rattle.paxos.specs.Step.{Running}

-- It has applied the values learnt at positions 1 to k, and all these are learnt.
abbrev pub IsAt : {A : Type 0} → (has_applied : List (List ℕ) → List Value → A → Type 0) → (names : List (List ℕ)) → (members : ℕ) → Running → (k : ℕ) → A → Type 0
IsAt has_applied names n u k a = (k ≤ prefix n (news u.heard)) × has_applied names (values_to n (news u.heard) k) a

-- From wherever it was it has gone on, to where nothing more is learnt, and where it is short to where more is.
abbrev pub HasGone : {R A : Type 0} → (has_applied : List (List ℕ) → List Value → A → Type 0) → Member R → (old new : A) → (is_short : Bool) → Type 0
HasGone has_applied x old new is_short = (names : List (List ℕ)) (u : Running) (k : ℕ) → IsThis u x → IsAt has_applied names x.members u k old
    → (j : ℕ) × (k ≤ j) × IsAt has_applied names x.members u j new × (is_short ≡ false → j ≡ prefix x.members (news u.heard)) × (is_short ≡ true → j < prefix x.members (news u.heard))
