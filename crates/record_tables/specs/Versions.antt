-- The versions of a record's tables.
use Rattle.std.specs.Prelude.{◌≡◌, ℕ}
use Rattle.sqlite.specs.Schema.{Schema}
use Rattle.record_tables.specs.declared.version.Version.{Version}
use Rattle.record_tables.specs.declared.version.Version.TheVariants.{First, Second}
use Rattle.record_tables.specs.Texts.{schema, schema_1}

-- its number in the member's row
abbrev pub number_of : Version → ℕ
number_of First = 1
number_of Second = 2

-- its tables, and no others
abbrev pub tables_of : Version → Schema
tables_of First = schema_1
tables_of Second = schema

-- the tables of some version
abbrev pub AreTables : Schema → Type 0
AreTables s = (version : Version) × (s ≡ tables_of version)
