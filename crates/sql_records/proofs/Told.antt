-- What a write that was answered left.
use Rattle.std.proofs.Common.{Ok, Err, Result}
use Rattle.sqlite.specs.State.{State}
use Rattle.ballots.specs.Terms.{Setup}
use Rattle.paxos.specs.Records.{Record}
use Rattle.records.specs.Law.{Puts}
use Rattle.record_writes.specs.declared.fault.WriteFault.{WriteFault}
use Rattle.record_writes.specs.declared.fault.WriteFault.TheVariants.{Memory, Store, Unseen}
use Rattle.record_writes.specs.Faults.{Leaves}
use Rattle.record_writes.specs.Holds.{Holds}
use Rattle.sql_records.specs.Faults.{told}

pub leaves_told : {T : Type 0} (s : State) (o : Setup) (last next : Record) (r : Result T WriteFault) → Leaves s o last next r → Puts (Holds s o) last next (told r)
leaves_told s o last next (Ok t) h = h
leaves_told s o last next (Err Memory) h = h
leaves_told s o last next (Err Store) h = h
leaves_told s o last next (Err Unseen) h = h.0
