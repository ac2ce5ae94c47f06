-- Whose row it is.
use Rattle.std.proofs.Common.{◌≡◌, ◌<◌, ◌^◌, ℕ, List, [], ◌∷◌, pos, map, sym, ap, subst, ◌∙◌, append-nil}
use Rattle.std.specs.List.Sorted.{IsPermutation}
use Rattle.sqlite.specs.declared.types.Value.TheVariants.{Int, Text}
use Rattle.sqlite.specs.Order.{Row}
use Rattle.sqlite.specs.Effect.{Database}
use Rattle.sqlite_catalog.specs.Listing.{IsSound}
use Rattle.sqlite_value.specs.Order.{column}
use Rattle.ballots.specs.Terms.{IsPlace, Setup}
use Rattle.record_tables.specs.declared.version.Version.{Version}
use Rattle.record_tables.specs.Versions.{tables_of}
use Rattle.record_writes.specs.Stored.{meta_row}
use Rattle.sql_records.specs.Reading.{IsSetup, ShowsOwner, ShowsAnother, meta_shown}
use Rattle.sql_records.specs.Faults.{IsAnothersIn}
use Rattle.sql_records.proofs.Loaded.{member_row}

-- any four columns are those of some setup
pub someone : (row : Row) (group member members : ℕ) (docs : List ℕ) → column row 2 ≡ Int (pos group) → column row 3 ≡ Int (pos member) → column row 4 ≡ Int (pos members) → column row 5 ≡ Text docs → group < 2 ^ 32 → IsPlace member members → (p : Setup) × IsSetup p × ShowsOwner p row
someone row group member members docs a b c d low place =
    (record { group = group; member = member; members = members; names = docs ∷ [] }, (low, place), record { group = a; member = b; members = c; docs = d ∙ ap Text (sym (append-nil docs)) })

module _ (version : Version) (o : Setup) (db : Database) (known : db.schema ≡ tables_of version) (sound : IsSound (tables_of version) db.trees) (rows : List Row) (moved : IsPermutation (map meta_shown (db.trees 0)) rows) (it : ShowsAnother o rows) where
  row_is : db.trees 0 ≡ meta_row it.version it.other it.promise.round it.promise.member ∷ []
  row_is = member_row version it.other db.trees sound it.row it.version it.promise (subst (IsPermutation (map meta_shown (db.trees 0))) it.only moved) it.shows

  -- were it this member's row, it would show this member
  same : meta_row it.version it.other it.promise.round it.promise.member ≡ meta_row it.version o it.promise.round it.promise.member → ShowsOwner o it.row
  same h = record {
    group = it.shows.group ∙ ap (λ (r : Row). column r 3) h;
    member = it.shows.member ∙ ap (λ (r : Row). column r 4) h;
    members = it.shows.members ∙ ap (λ (r : Row). column r 5) h;
    docs = it.shows.docs ∙ ap (λ (r : Row). column r 6) h;
  }

  pub anothers : IsAnothersIn version o db
  anothers = record { known = known; other = it.other; numbers = it.numbers; number = it.version; few = it.few; promise = it.promise; row = row_is; sound = it.shows.promise; differs = λ h. it.differs (same h) }
