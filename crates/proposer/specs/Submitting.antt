-- When a request is proposed.
use Rattle.std.specs.Prelude.{◌≡◌, ◌<◌, ◌≤◌, ℕ, Bool, true, Some, length}
use Rattle.ballots.specs.Terms.{Request}
use Rattle.ballots.specs.Values.{positions, most_open}
use Rattle.ballots.specs.declared.value.Value.TheVariants.{Request as Of}
use Rattle.paxos.specs.Proposing.{has_free_place}
use Rattle.proposer.specs.declared.draft.Change.{Change}
use Rattle.proposer.specs.declared.draft.Change.TheVariants.{Nothing, Begin, Propose, Take}
use Rattle.proposer.specs.declared.sends.Sends.{Sends}
use Rattle.proposer.specs.Knowing.{IsAcceptOf}
use Rattle.proposer.specs.Taking.{CanTake}
use Rattle.proposer.specs.Terms.{Leading, Proposer, cover_of, report_of, is_learnt_of, turn_of}

-- a request finds a place at a leader
abbrev pub takes_request : (members : ℕ) → Leading → Bool
takes_request n l = has_free_place n (cover_of l) (report_of l) (is_learnt_of l) (turn_of l)

-- There is place and room for what a change proposes and takes in, and its covers are those of the members.
abbrev pub IsReady : Proposer → Change → Type 0
IsReady x Nothing = Unit {0}
IsReady x (Begin lead) = length lead.covers ≡ x.members
IsReady x (Take news) = (l : Leading) × (x.lead ≡ Some l) × CanTake l news
IsReady x (Propose value) = (l : Leading) × (x.lead ≡ Some l) × (length l.proposals < most_open) × (l.next ≤ positions)

-- The request found a place: it is proposed at the next position, and this is sent.
pub record IsSubmitted (q : Request) (x : Proposer) (l : Leading) (change : Change) (s : Sends) : Type 0 where
  pub leads : x.lead ≡ Some l
  pub place : takes_request x.members l ≡ true
  pub least : 1 ≤ l.next
  pub change_is : change ≡ Propose (Of q)
  pub sends : IsAcceptOf (Of q) l s
