-- The law of records: what a write leaves, whatever happens to the member then.
-- "Paxos Made Simple", section 2.5: an acceptor keeps what it has promised and accepted in stable storage, before it answers.
use Rattle.std.specs.Prelude.{◌≡◌, ◌+◌, ◌-◌, ◌^◌, ℕ, suc, Bool, true, false, cond, min, Option, Some, None, Result, Ok, Err}
use Rattle.paxos.specs.Records.{Record, Write, Nothing, NewPromise, NewVote, NewLearnt, written}
use Rattle.records.specs.declared.records.RecordsFault.{RecordsFault}
use Rattle.records.specs.declared.records.RecordsFault.TheVariants.{Memory, Store}

-- just one more failure is counted; at 2 ^ 64 - 1 the count stays, which counts as grown
abbrev pub Grew : ℕ → ℕ → Type 0
Grew old new = new ≡ min (old + 1) (2 ^ 64 - 1)

-- What a crash leaves after a write of `next` over `last`: after Ok the new record, for want of memory the old one, of a store that failed either.
abbrev pub Puts : {T : Type 0} → (Record → Record → Type 0) → (last next : Record) → Result T RecordsFault → Type 0
Puts stands last next (Ok _) = stands next next
Puts stands last next (Err Memory) = stands last last
Puts stands last next (Err Store) = stands last next

-- a call says that the store failed exactly where its failures grew, by one
abbrev pub Counts : {T : Type 0} → ℕ → ℕ → Result T RecordsFault → Type 0
Counts old new (Ok _) = new ≡ old
Counts old new (Err Memory) = new ≡ old
Counts old new (Err Store) = Grew old new

-- What is known of a write to come: that it does not fail, or that it fails and is left or not. Of a store on a disk nothing is.
abbrev pub Fate : Type 0
Fate = Option (Option Bool)

-- a write that is let pass does not fail
abbrev pub passing : (passes : Bool) → Option Bool → Option Bool
passing false f = f
passing true f = None

-- A write goes as was known of it before: it fails only if it had to, and then leaves what it had to. The writes after it are known as
-- before, the next one first. Where memory was refused there was no write.
abbrev pub Goes : {T : Type 0} → (Record → Record → Type 0) → (old new : ℕ → Fate) → (passes : Bool) → (last next : Record) → Result T RecordsFault → Type 0
Goes stands old new p last next (Ok _) = ((f : Option Bool) → old 0 ≡ Some f → passing p f ≡ None) × ((k : ℕ) → new k ≡ old (suc k))
Goes stands old new p last next (Err Memory) = (k : ℕ) → new k ≡ old k
Goes stands old new p last next (Err Store) =
    ((f : Option Bool) → old 0 ≡ Some f → (left : Bool) × (passing p f ≡ Some left) × stands (cond left next last) (cond left next last)) × ((k : ℕ) → new k ≡ old (suc k))

-- so for a write over a record, or for none
abbrev pub Went : {T : Type 0} → (Record → Record → Type 0) → (old new : ℕ → Fate) → (passes : Bool) → Record → Write → Result T RecordsFault → Type 0
Went stands old new p last Nothing result = (k : ℕ) → new k ≡ old k
Went stands old new p last (NewPromise b) result = Goes stands old new p last (written (NewPromise b) last) result
Went stands old new p last (NewVote q vote) result = Goes stands old new p last (written (NewVote q vote) last) result
Went stands old new p last (NewLearnt value) result = Goes stands old new p last (written (NewLearnt value) last) result
