-- Several writes of a record in one, and records that take writes in memory until then.
use Rattle.std.specs.Prelude.{◌≡◌, ◌≤◌, ◌<◌, ℕ, suc, List, [], ◌∷◌, length, map, Bool, true, false, Some, None, Result}
use Rattle.ballots.specs.Ballot.{IsBallot, below}
use Rattle.ballots.specs.Values.{positions}
use Rattle.paxos.specs.Records.{Record, Write, NewPromise, NewVote, NewLearnt, written}
use Rattle.paxos.specs.Batches.{all_written}
use Rattle.records.specs.Law.{Fate, Goes}
use Rattle.records.specs.declared.group.Write.{Write as WriteOfCode}
use Rattle.records.specs.declared.group.Write.TheVariants as write
use Rattle.records.specs.declared.records.RecordsFault.{RecordsFault}

-- what a write of the code says
abbrev pub write_of : WriteOfCode → Write
write_of (write.Promise ballot) = NewPromise ballot
write_of (write.Vote position vote) = NewVote position vote
write_of (write.Learnt position value) = NewLearnt value

-- the record after writes of the code
abbrev pub after : List WriteOfCode → Record → Record
after ws r = all_written (map write_of ws) r

-- its ballot is one, and its position is one
abbrev pub IsWrite : WriteOfCode → Type 0
IsWrite (write.Promise ballot) = IsBallot ballot
IsWrite (write.Vote position vote) = IsBallot vote.ballot × (1 ≤ position) × (position ≤ positions)
IsWrite (write.Learnt position value) = position ≤ positions

-- so for each of them
abbrev pub AreWrites : List WriteOfCode → Type 0
AreWrites [] = Unit {0}
AreWrites (w ∷ ws) = IsWrite w × AreWrites ws

-- It may be written over this record: its ballot is not below the promise; a learnt value comes just behind those that are kept.
abbrev pub IsDue : WriteOfCode → Record → Type 0
IsDue (write.Promise ballot) r = below ballot r.promise ≡ false
IsDue (write.Vote position vote) r = below vote.ballot r.promise ≡ false
IsDue (write.Learnt position value) r = position ≡ suc (length r.learnt)

-- there is room for one more value, if it is one
abbrev pub HasRoom : WriteOfCode → Record → Type 0
HasRoom (write.Promise ballot) r = Unit {0}
HasRoom (write.Vote position vote) r = Unit {0}
HasRoom (write.Learnt position value) r = length r.learnt < positions

-- each of them may be written over the record after those before it
abbrev pub MayBeWritten : List WriteOfCode → Record → Type 0
MayBeWritten [] r = Unit {0}
MayBeWritten (w ∷ ws) r = IsDue w r × MayBeWritten ws (written (write_of w) r)

-- several writes go as one of what they make together, and none of them as no write
abbrev pub GoTogether : (Record → Record → Type 0) → (old new : ℕ → Fate) → (passes : Bool) → Record → List WriteOfCode → Result (Unit {0}) RecordsFault → Type 0
GoTogether stands old new p last [] result = (k : ℕ) → new k ≡ old k
GoTogether stands old new p last (w ∷ ws) result = Goes stands old new p last (after (w ∷ ws) last) result

-- Records that take writes in memory: the store, the record with all that was taken, what of it is not in the store yet, and whether
-- the store failed to write it, since when it writes no more.
pub record Staged (R : Type 0) : Type 0 where
  pub store : R
  pub taken : Record
  pub pending : List WriteOfCode
  pub has_failed : Bool
  pub failures : ℕ

-- The store leaves this record, whatever happens, and those writes may be made over it and make of it the one with all that was taken.
abbrev pub IsBehind : {R : Type 0} → (stands : R → Record → Record → Type 0) → R → List WriteOfCode → (taken base : Record) → Type 0
IsBehind stands store pending taken base = stands store base base × MayBeWritten pending base × (taken ≡ after pending base)

-- there is such a record
abbrev pub Behind : {R : Type 0} → (stands : R → Record → Record → Type 0) → R → List WriteOfCode → (taken : Record) → Type 0
Behind stands store pending taken = (base : Record) × IsBehind stands store pending taken base

-- nothing that is taken fails, until the store has failed: then nothing is known
abbrev pub fates_of : (has_failed : Bool) → Fate
fates_of false = Some None
fates_of true = None
