-- Which fault a write is answered with.
use Rattle.std.specs.Prelude.{◌≡◌, ◌⊎◌, ◌+◌, ◌≤◌, ◌^◌, ℕ, List, false, length, IsSome, Result, Ok, Err}
use Rattle.sqlite_disk.specs.Disk.{MoreFaults}
use Rattle.sqlite.specs.State.{State}
use Rattle.ballots.specs.Terms.{Setup}
use Rattle.paxos.specs.Records.{Record}
use Rattle.record_tables.specs.Texts.{keep_text, promise_text}
use Rattle.record_writes.specs.declared.fault.WriteFault.{WriteFault}
use Rattle.record_writes.specs.declared.fault.WriteFault.TheVariants.{Memory, Store, Unseen}
use Rattle.record_writes.specs.Holds.{Failed, Holds}
use Rattle.record_writes.specs.Stored.{joined}

-- Why a store is said to have failed: the disk failed or refused in the call, or the connection was shut, or its statements may take only
-- so many steps.
abbrev pub StoreFailed : State → State → Type 0
StoreFailed old new = MoreFaults old.faults new.faults ⊎ ((old.is_open ≡ false) ⊎ IsSome old.step_limit)

-- What a crash leaves after a write of `next` over `last`: after an Ok the new record, for want of memory the old one, of a store that failed
-- either. Where it was not seen whether the connection is still open, it is either, and the old one if it is.
abbrev pub Leaves : {T : Type 0} → State → Setup → (last next : Record) → Result T WriteFault → Type 0
Leaves s o last next (Ok _) = Holds s o next next
Leaves s o last next (Err Memory) = Holds s o last last
Leaves s o last next (Err Store) = Holds s o last next
Leaves s o last next (Err Unseen) = Failed s o last next

-- The member's row can be stored: it has at most a billion bytes, with 18 for each of its nine values. So it is with the names of documents.
abbrev pub FitsRow : Setup → Type 0
FitsRow o = 162 + length (joined o.names) ≤ 10 ^ 9

-- a text that is read before a write: that of a promise, or of a learnt value
abbrev pub IsWriteText : List ℕ → Type 0
IsWriteText text = (text ≡ promise_text) ⊎ (text ≡ keep_text)
