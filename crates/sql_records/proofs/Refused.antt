-- Tables in which no record stands.
use Rattle.std.proofs.Common.{◌≡◌, ◌≢◌, ℕ, List, [], ◌∷◌, map, length, refl, sym, ap, subst, ◌∙◌, arith}
use Rattle.sqlite.specs.Schema.{Schema}
use Rattle.std.specs.List.Sorted.{IsPermutation}
use Rattle.sqlite.specs.Order.{Row}
use Rattle.sqlite.specs.Effect.{Database}
use Rattle.sqlite.proofs.Callers.{one_permutation}
use Rattle.ballots.specs.Terms.{Setup}
use Rattle.ballots.specs.declared.ballot.Ballot.{Ballot}
use Rattle.ballots.specs.declared.value.Entry.{Entry}
use Rattle.ballots.specs.declared.value.Value.{Value}
use Rattle.paxos.specs.Records.{Record}
use Rattle.record_tables.specs.Texts.{no_schema, schema, schema_1}
use Rattle.record_tables.specs.declared.version.Version.{Version}
use Rattle.record_tables.specs.declared.version.Version.TheVariants.{First, Second}
use Rattle.record_tables.specs.Versions.{number_of, tables_of}
use Rattle.record_writes.specs.Stored.{IsPromise, IsStored, KeepsLearnt, meta_row}
use Rattle.sql_records.specs.Reading.{IsSetup, AreVotes, IsVersion, ShowsMember, ShowsNoMember, ShowsOwner, meta_shown}
use Rattle.sql_records.specs.Faults.{HoldsNone, IsAnothers, IsAnothersIn, IsDamaged}
use Rattle.sql_records.proofs.Loaded.{above_has}

shows : (number : ℕ) (p : Setup) (b : Ballot) → IsPromise p.members b → ShowsMember number p b (meta_shown (meta_row number p b.round b.member))
shows number p b good = record { id = refl; number = refl; group = refl; member = refl; members = refl; docs = refl; round = refl; leader = refl; promise = good }

is_version : (version : Version) → IsVersion (number_of version)
is_version First = omega arith
is_version Second = omega arith

ballot_of : ℕ → ℕ → Ballot
ballot_of round member = record { round = round; member = member }

module _ (version : Version) (o : Setup) (db : Database) where
  abbrev row_of : Setup → ℕ → ℕ → Row
  row_of = meta_row (number_of version)

  module _ (rows : List Row) (moved : IsPermutation (map meta_shown (db.trees 0)) rows) where
    one : (number : ℕ) (p : Setup) (round leader : ℕ) → db.trees 0 ≡ meta_row number p round leader ∷ [] → rows ≡ meta_shown (meta_row number p round leader) ∷ []
    one number p round leader is = one_permutation (meta_shown (meta_row number p round leader)) rows (subst (λ t. IsPermutation (map meta_shown t) rows) is moved)

    -- a row that shows this member is its own
    own : (number : ℕ) (p : Setup) (round leader : ℕ) → ShowsOwner o (meta_shown (meta_row number p round leader)) → meta_row number p round leader ≡ meta_row number o round leader
    own number p round leader shown = rw (shown.group, shown.member, shown.members, shown.docs) refl

    -- there is no row of a member
    pub no_member : IsSetup o → ShowsNoMember version o rows → HoldsNone version o db
    no_member numbers none = record {
      none = λ known r s. (none (meta_shown (row_of o r.promise.round r.promise.member)) (one (number_of version) o r.promise.round r.promise.member s.meta) (number_of version) o r.promise (is_version version) numbers (shows (number_of version) o r.promise s.promise)).1 refl;
      nobody = λ a. a.differs (own a.number a.other a.promise.round a.promise.member (none (meta_shown (meta_row a.number a.other a.promise.round a.promise.member)) (one a.number a.other a.promise.round a.promise.member a.row) a.number a.other a.promise a.few a.numbers (shows a.number a.other a.promise a.sound)).0);
    }

  votes_of : (r : Record) (s : IsStored version o db.trees r) → AreVotes o.members r.promise (db.trees 1) s.rows
  votes_of r s = record {
    rows = s.votes;
    once = s.once;
    least = λ e has. above_has 0 r.votes e s.rising (s.sound e has);
    stand = λ e has. s.each e (s.sound e has);
  }

  module _ (b : Ballot) (row : db.trees 0 ≡ row_of o b.round b.member ∷ []) where
    same : (c : Ballot) → db.trees 0 ≡ row_of o c.round c.member ∷ [] → c ≡ b
    unfolding ballot_of
    same c is =
        let rows : row_of o c.round c.member ∷ [] ≡ row_of o b.round b.member ∷ [] = sym is ∙ row in
        let n : c.round ≡ b.round = cc in
        let m : c.member ≡ b.member = cc in
        λ i. ballot_of (n i) (m i)

    -- the row is that of this member, so it is not another's
    nobody : ¬ IsAnothersIn version o db
    nobody a =
        let rows : meta_row a.number a.other a.promise.round a.promise.member ∷ [] ≡ row_of o b.round b.member ∷ [] = sym a.row ∙ row in
        let first : meta_row a.number a.other a.promise.round a.promise.member ≡ row_of o b.round b.member = cc in
        let n : a.promise.round ≡ b.round = cc in
        let m : a.promise.member ≡ b.member = cc in
        let v : a.number ≡ number_of version = cc in
        a.differs (rw (v, n, m) (rw (v, n, m) at first))

    -- the votes are none
    pub no_votes : ((votes : List Entry) → ¬ AreVotes o.members b (db.trees 1) votes) → HoldsNone version o db
    no_votes none = record { none = λ known r s. none s.rows (subst (λ (c : Ballot). AreVotes o.members c (db.trees 1) s.rows) (same r.promise s.meta) (votes_of r s)); nobody = nobody }

    -- what is kept as learnt is no list of values
    pub no_values : ((values : List Value) → ¬ KeepsLearnt version db.trees values) → HoldsNone version o db
    no_values none = record { none = λ known r s. none r.learnt s.kept; nobody = nobody }

-- the tables are not those of the version
pub other_tables : (version : Version) (o : Setup) (db : Database) → db.schema ≢ tables_of version → HoldsNone version o db
other_tables version o db other = record { none = λ known r s. other known; nobody = λ a. other a.known }

firsts : schema_1 ≢ schema
firsts same = let two : 2 ≡ 3 = ap (λ (s : Schema). length s.tables) same in omega (arith, two)

-- tables of one version are not those of the other
pub damaged : (o : Setup) (db : Database) (version : Version) → db.schema ≡ tables_of version → HoldsNone version o db → IsDamaged o db
damaged o db First is none = (λ empty. absurd (let few : 2 ≡ 0 = ap (λ (s : Schema). length s.tables) (sym is ∙ empty) in omega (arith, few)), λ v. by v)
  where
    by : (v : Version) → HoldsNone v o db
    by First = none
    by Second = other_tables Second o db (λ second. firsts (sym is ∙ second))
damaged o db Second is none = (λ empty. absurd (let few : 3 ≡ 0 = ap (λ (s : Schema). length s.tables) (sym is ∙ empty) in omega (arith, few)), λ v. by v)
  where
    by : (v : Version) → HoldsNone v o db
    by First = other_tables First o db (λ first. firsts (sym first ∙ is))
    by Second = none

-- there are tables, and not those of version 1
pub damaged_else : (o : Setup) (db : Database) → db.schema ≢ no_schema → db.schema ≢ schema_1 → HoldsNone Second o db → IsDamaged o db
damaged_else o db some other none = (some, λ v. by v)
  where
    by : (v : Version) → HoldsNone v o db
    by First = other_tables First o db other
    by Second = none

pub anothers_is : (v : Version) (o : Setup) (db : Database) → IsAnothersIn v o db → IsAnothers o db
anothers_is v o db a = (v, a)
