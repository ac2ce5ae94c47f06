-- What is given with a promise and with learnt positions, and what is said of drafts of them.
use Rattle.std.specs.Prelude.{◌≡◌, ◌≤◌, ◌+◌, ℕ, Bool, true, false, List, [], ◌∷◌, Option, Some, None}
use Rattle.ballots.specs.Messages.{Window}
use Rattle.ballots.specs.Values.{positions}
use Rattle.ballots.specs.declared.value.Entry.{Entry}
use Rattle.paxos.specs.Knowledge.{joins}
use Rattle.proposer.specs.declared.draft.Change.{Change}
use Rattle.proposer.specs.declared.draft.Change.TheVariants.{Nothing, Take}
use Rattle.proposer.specs.declared.draft.News.{News}
use Rattle.proposer.specs.declared.sends.Sends.{Sends}
use Rattle.proposer.specs.Taking.{CanTake, IsAsWas, IsSaid, Tells, left_open, view_of}
use Rattle.proposer.specs.Terms.{Leading, Proposer, cover_of}
use Rattle.proposer.specs.Turning.{HasGone}

-- entries rise between two positions
abbrev pub AreBetween : (least : ℕ) → (most : ℕ) → List Entry → Type 0
AreBetween least most [] = Unit {0}
AreBetween least most (e ∷ es) = (least ≤ e.position) × (e.position ≤ most) × AreBetween (e.position + 1) most es

-- a window that a member may send: its entries rise from its first position to its last
pub record IsWindow (w : Window) : Type 0 where
  pub least : 1 ≤ w.from
  pub most : w.covered ≤ positions
  pub entries : AreBetween w.from w.covered w.entries

-- nothing but room changed in what a proposer leads
abbrev pub SameLead : Option Leading → Option Leading → Type 0
SameLead None None = Unit {0}
SameLead None (Some x) = ⊥
SameLead (Some l) None = ⊥
SameLead (Some l) (Some x) = IsAsWas l x

-- nothing but room changed
pub record IsUnchanged (old new : Proposer) : Type 0 where
  pub members : new.members ≡ old.members
  pub member : new.member ≡ old.member
  pub lead : SameLead old.lead new.lead

-- A leader takes this in: it was told, proposing comes to this, and there is room.
pub record IsTaking (members : ℕ) (l : Leading) (member covered : ℕ) (entries : List Entry) (learnt : List ℕ) (change : Change) (answer : Option Sends) : Type 0 where
  pub news : News
  pub sends : Sends
  pub change_is : change ≡ Take news
  pub answer_is : answer ≡ Some sends
  pub least : 1 ≤ l.next
  pub told : Tells member covered entries learnt news
  pub gone : HasGone members (view_of l news) (left_open l news) l.next news.made
  pub ready : CanTake l news
  pub said : IsSaid l news sends

-- nothing is done
pub record IsQuiet (change : Change) (answer : Option Sends) : Type 0 where
  pub change_is : change ≡ Nothing
  pub answer_is : answer ≡ None

-- what comes of a promise at a leader: nothing, if the window doesn't join
abbrev pub TakesIf : (joined : Bool) → (members : ℕ) → Leading → (sender : ℕ) → Window → Change → Option Sends → Type 0
TakesIf true n l k w change answer = IsTaking n l k w.covered w.entries [] change answer
TakesIf false n l k w change answer = IsQuiet change answer

abbrev pub TakesPromise : (members : ℕ) → Option Leading → (sender : ℕ) → Window → Change → Option Sends → Type 0
TakesPromise n None k w change answer = IsQuiet change answer
TakesPromise n (Some l) k w change answer = TakesIf (joins l.ballot (cover_of l k) w) n l k w change answer

-- what comes of learnt positions: nothing, if there are none
abbrev pub TakesLearnt : (members : ℕ) → Option Leading → List ℕ → Change → Option Sends → Type 0
TakesLearnt n None ps change answer = IsQuiet change answer
TakesLearnt n (Some l) [] change answer = IsQuiet change answer
TakesLearnt n (Some l) (p ∷ ps) change answer = IsTaking n l 0 0 [] (p ∷ ps) change answer
