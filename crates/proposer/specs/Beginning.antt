-- What is given where a member begins a ballot ("Paxos Made Simple", sections 2.2 and 3).
use Rattle.std.specs.Prelude.{◌≡◌, ◌≤◌, ℕ, suc, Bool, false, ◌==◌, List, [], length, None}
use Rattle.std.specs.List.{list_any}
use Rattle.ballots.specs.Ballot.{same_ballot}
use Rattle.ballots.specs.declared.ballot.Ballot.{Ballot}
use Rattle.ballots.specs.Messages.{Packet}
use Rattle.paxos.specs.Knowledge.{Promised, windows}
use Rattle.paxos.specs.Step.{is_learnt_heard}
use Rattle.proposer.specs.Terms.{Leading, cover_of, report_of, is_learnt_of}

-- the position is in the list
abbrev pub is_in : (position : ℕ) → List ℕ → Bool
is_in p ps = list_any (λ q. p == q) ps

-- From this position on the list has the positions that are learnt, and nothing was promised to the ballot yet.
pub record IsFresh (members : ℕ) (heard : List Packet) (ballot : Ballot) (from : ℕ) (known : List ℕ) : Type 0 where
  pub learnt : (p : ℕ) → from ≤ p → is_in p known ≡ is_learnt_heard members heard p
  pub unpromised : list_any (λ (x : Promised). same_ballot ballot x.window.ballot) (windows heard) ≡ false

-- a leader of a ballot that begins at a position: no member's window covers it or a later one, nothing is reported or open, and of the
-- positions from there on just these are learnt
pub record IsBegun (members : ℕ) (ballot : Ballot) (from : ℕ) (known : List ℕ) (x : Leading) : Type 0 where
  pub ballot_is : x.ballot ≡ ballot
  pub base : from ≡ suc x.base
  pub next : x.next ≡ from
  pub proposals : x.proposals ≡ []
  pub many : length x.covers ≡ members
  pub covers : (m : ℕ) → 1 ≤ m → m ≤ members → cover_of x m ≡ x.base
  pub reports : (p : ℕ) → report_of x p ≡ None
  pub learnt : (p : ℕ) → is_learnt_of x p ≡ is_in p known
