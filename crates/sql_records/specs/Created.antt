-- What a database without tables is given.
use Rattle.std.specs.Prelude.{◌≡◌, ◌⊎◌, true, List, [], ◌∷◌}
use Rattle.sqlite.specs.State.{State, HasCleanDisk}
use Rattle.sqlite.specs.Schema.{Schema}
use Rattle.sqlite.specs.Tree.{Trees}
use Rattle.sqlite.specs.Order.{Row}
use Rattle.ballots.specs.Terms.{Setup}
use Rattle.paxos.specs.Records.{Record, empty_record}
use Rattle.record_tables.specs.Texts.{meta, no_schema, schema_1}
use Rattle.record_tables.specs.declared.version.Version.TheVariants.{First, Second}
use Rattle.record_writes.specs.Stored.{IsStored}

-- What a crash leaves now it left before as well, or else there were no tables and it leaves the empty record.
abbrev pub MakesOnly : Setup → (old new : State) → Type 0
MakesOnly o old new = HasCleanDisk new → (db : Trees) → new.may_leave db → old.may_leave db ⊎ ((old.now.schema ≡ no_schema) × IsStored Second o db empty_record)

-- What a crash leaves now it left before as well, or else the tables were those of version 1, and it leaves in version 2 each record that they held.
abbrev pub MigratesOnly : Setup → (old new : State) → Type 0
MigratesOnly o old new =
    HasCleanDisk new → (db : Trees) → new.may_leave db → old.may_leave db ⊎ ((old.now.schema ≡ schema_1) × ((r : Record) → IsStored First o old.now.trees r → IsStored Second o db r))

-- What a crash leaves now it left before as well, or else there were no tables and it leaves the empty record, or those of version 1 that held
-- a record, and it leaves that one in version 2.
abbrev pub OpensOnly : Setup → (old new : State) → Type 0
OpensOnly o old new =
    HasCleanDisk new → (db : Trees) → new.may_leave db → old.may_leave db ⊎ (((old.now.schema ≡ no_schema) × IsStored Second o db empty_record)
    ⊎ ((r : Record) × (old.now.schema ≡ schema_1) × IsStored First o old.now.trees r × IsStored Second o db r))

-- the schema with the table of the member alone
abbrev pub half_schema : Schema
half_schema = record { tables = meta ∷ []; indexes = []; views = [] }

-- a transaction sees tables of that schema, and of their rows this holds
pub record Makes (s : State) (schema : Schema) (Rows : Trees → Type 0) : Type 0 where
  pub known : s.now.schema ≡ schema
  pub rows : Rows s.now.trees
  pub mode : s.in_transaction ≡ true

-- the first table stands, and has no rows
abbrev pub FirstIsEmpty : Trees → Type 0
FirstIsEmpty db = db 0 ≡ []

-- the first two tables stand, with those rows
abbrev pub HaveRows : (member votes : List Row) → Trees → Type 0
HaveRows member votes db = (db 0 ≡ member) × (db 1 ≡ votes)

-- all three stand, the third with no rows
abbrev pub HaveNoneLearnt : (member votes : List Row) → Trees → Type 0
HaveNoneLearnt member votes db = (db 0 ≡ member) × (db 1 ≡ votes) × (db 2 ≡ [])
