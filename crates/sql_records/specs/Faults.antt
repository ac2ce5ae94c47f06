-- Which fault a database is.
use Rattle.std.specs.Prelude.{◌≡◌, ◌≢◌, ℕ, [], ◌∷◌, Result, Ok, Err}
use Rattle.sqlite.specs.Effect.{Database}
use Rattle.ballots.specs.Terms.{Setup}
use Rattle.ballots.specs.declared.ballot.Ballot.{Ballot}
use Rattle.paxos.specs.Records.{Record}
use Rattle.record_tables.specs.Texts.{no_schema}
use Rattle.record_tables.specs.declared.version.Version.{Version}
use Rattle.record_tables.specs.Versions.{tables_of}
use Rattle.records.specs.declared.records.RecordsFault.{RecordsFault}
use Rattle.records.specs.declared.records.RecordsFault.TheVariants.{Memory, Store}
use Rattle.record_writes.specs.declared.fault.WriteFault.{WriteFault}
use Rattle.record_writes.specs.declared.fault.WriteFault.TheVariants as write
use Rattle.record_writes.specs.Stored.{IsPromise, IsStored, meta_row}
use Rattle.sql_records.specs.Reading.{IsSetup, IsVersion}

-- The one row of the member's table is that of some member, in any version, with a promise, and not the row of this one: another group, member,
-- number of members or list of names.
pub record IsAnothersIn (version : Version) (o : Setup) (db : Database) : Type 0 where
  pub known : db.schema ≡ tables_of version
  pub other : Setup
  pub numbers : IsSetup other
  pub number : ℕ
  pub few : IsVersion number
  pub promise : Ballot
  pub row : db.trees 0 ≡ meta_row number other promise.round promise.member ∷ []
  pub sound : IsPromise other.members promise
  pub differs : meta_row number other promise.round promise.member ≢ meta_row number o promise.round promise.member

-- so it is in the tables of one of the versions
abbrev pub IsAnothers : Setup → Database → Type 0
IsAnothers o db = (version : Version) × IsAnothersIn version o db

-- If the tables are those of that version of a record, then no record of this member stands in them, nor another member's row.
pub record HoldsNone (version : Version) (o : Setup) (db : Database) : Type 0 where
  pub none : db.schema ≡ tables_of version → (r : Record) → ¬ IsStored version o db.trees r
  pub nobody : ¬ IsAnothersIn version o db

-- There are tables: other ones than those of a record, or those of a version with no record of this member in it and no row of another.
abbrev pub IsDamaged : Setup → Database → Type 0
IsDamaged o db = (db.schema ≢ no_schema) × ((version : Version) → HoldsNone version o db)

-- What a fault of a write is to records: where it was not seen whether the connection is still open, the store is said to have failed.
abbrev pub told : {T : Type 0} → Result T WriteFault → Result T RecordsFault
told (Ok t) = Ok t
told (Err write.Memory) = Err Memory
told (Err write.Store) = Err Store
told (Err write.Unseen) = Err Store
