-- What an acceptor is about to write and to answer, and what a refused opening leaves.
use Rattle.std.specs.Prelude.{◌≡◌, ◌≤◌, ◌<◌, ℕ, length, Option, Some, None, false, Err}
use Rattle.ballots.specs.Ballot.{IsBallot, below}
use Rattle.ballots.specs.Values.{positions}
use Rattle.paxos.specs.Records.{Record, Write, Nothing, NewPromise, NewVote, NewLearnt}
use Rattle.records.specs.Law.{Counts, Fate}
use Rattle.records.specs.Group.{write_of as written_by}
use Rattle.records.specs.declared.group.Write.{Write as WriteOfCode}
use Rattle.records.specs.declared.records.RecordsFault.{RecordsFault}
use Rattle.records.specs.declared.records.RecordsFault.TheVariants.{Store}

-- an answer, and the write that comes before it
pub record Draft (A : Type 0) : Type 0 where
  pub answer : A
  pub write : Write

-- what is about to be written, if anything is
abbrev pub write_of : Option WriteOfCode → Write
write_of None = Nothing
write_of (Some w) = written_by w

-- It may be written over this record: a ballot that isn't below the promise, and a vote or a learnt value at a position that there may be.
abbrev pub IsDue : Record → Write → Type 0
IsDue r Nothing = Unit {0}
IsDue r (NewPromise b) = IsBallot b × (below b r.promise ≡ false)
IsDue r (NewVote p vote) = IsBallot vote.ballot × (1 ≤ p) × (p ≤ positions) × (below vote.ballot r.promise ≡ false)
IsDue r (NewLearnt value) = length r.learnt < positions

-- Records that could not be opened: a crash leaves what it left before.
pub record IsRefused {R : Type 0} (stands : R → Record → Record → Type 0) (is_kept : R → Type 0) (failed : R → ℕ) (fates : R → ℕ → Fate) (old new : R) (fault : RecordsFault) : Type 0 where
  pub crash : is_kept new → (a b : Record) → stands old a b → stands new a b
  pub kept : is_kept new → is_kept old
  pub counts : Counts {T = Unit {0}} (failed old) (failed new) (Err fault)
  pub fates_are : (k : ℕ) → fates new k ≡ fates old k
  pub sure : fault ≡ Store → fates old 0 ≡ None
