-- What is known of a connection to a record.
use Rattle.std.specs.Prelude.{◌≡◌, ◌⊎◌, true, false, IsTrue, Result, Ok, Err}
use Rattle.sqlite.specs.State.{State, IsUnchanged, IsRolledBack}
use Rattle.sqlite.specs.Tree.{Trees}
use Rattle.ballots.specs.Terms.{Setup}
use Rattle.paxos.specs.Records.{Record}
use Rattle.record_tables.specs.Texts.{schema}
use Rattle.record_tables.specs.declared.version.Version.TheVariants.{Second}
use Rattle.record_writes.specs.Stored.{IsStored}

-- Whatever a crash leaves, is the one record or the other. Nothing is under way.
pub record Holds (s : State) (o : Setup) (a b : Record) : Type 0 where
  pub crash : (db : Trees) → s.may_leave db → IsStored Second o db a ⊎ IsStored Second o db b
  pub known : IsTrue s.is_open → s.now.schema ≡ schema
  pub settled : IsTrue s.is_open → s.now ≡ s.committed
  pub mode : s.in_transaction ≡ false

-- a write of `next` over `last` failed, and was undone where the connection is still open
abbrev pub Failed : State → Setup → Record → Record → Type 0
Failed s o last next = Holds s o last next × (IsTrue s.is_open → Holds s o last last)

abbrev pub Written : {T E : Type 0} → State → Setup → Record → Record → Result T E → Type 0
Written s o last next (Ok _) = Holds s o next next
Written s o last next (Err _) = Failed s o last next

-- Inside a transaction, and after one that failed: a crash leaves the last record, and so does a rollback.
pub record Under (s : State) (o : Setup) (last : Record) : Type 0 where
  pub crash : (db : Trees) → s.may_leave db → IsStored Second o db last
  pub known : IsTrue s.is_open → s.committed.schema ≡ schema
  pub stored : IsTrue s.is_open → IsStored Second o s.committed.trees last

-- the transaction sees this record
pub record Sees (s : State) (o : Setup) (now : Record) : Type 0 where
  pub is_open : IsTrue s.is_open
  pub known : s.now.schema ≡ schema
  pub stored : IsStored Second o s.now.trees now
  pub mode : s.in_transaction ≡ true

-- a call changed nothing, or rolled back
abbrev pub Ended : State → State → Type 0
Ended old new = IsUnchanged old new ⊎ IsRolledBack old new
