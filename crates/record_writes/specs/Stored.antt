-- What the tables hold for a record.
use Rattle.std.specs.Prelude.{◌≡◌, ◌⊎◌, ◌+◌, ◌≤◌, ◌==◌, ℕ, suc, cond, false, List, [], ◌∷◌, ◌++◌, map, flat_map, length, pos}
use Rattle.std.specs.List.Sorted.{IsPermutation}
use Rattle.sqlite.specs.declared.types.Value.TheVariants.{Null, Int, Text, Blob}
use Rattle.sqlite.specs.Order.{Row}
use Rattle.sqlite.specs.Tree.{Trees}
use Rattle.sqlite_rules.specs.Lists.{Has}
use Rattle.ballots.specs.Ballot.{IsBallotOf, below, no_ballot}
use Rattle.ballots.specs.Values.{positions}
use Rattle.ballots.specs.Terms.{Setup}
use Rattle.ballots.specs.Spelling.{IsValue, value_spelling}
use Rattle.ballots.specs.declared.ballot.Ballot.{Ballot}
use Rattle.ballots.specs.declared.value.Entry.{Entry}
use Rattle.ballots.specs.declared.value.Value.{Value}
use Rattle.paxos.specs.Records.{Record}
use Rattle.records.specs.Kept.{IsRising}
use Rattle.record_tables.specs.declared.version.Version.{Version}
use Rattle.record_tables.specs.declared.version.Version.TheVariants.{First, Second}
use Rattle.record_tables.specs.Versions.{number_of}

-- the names with a line feed between each two
abbrev pub joined : List (List ℕ) → List ℕ
joined [] = []
joined (n ∷ ns) = n ++ flat_map (λ m. 10 ∷ m) ns

-- the row of a member's table, with the version, and the round and the leader of its promise
abbrev pub meta_row : (version : ℕ) → Setup → (round leader : ℕ) → Row
meta_row version o round leader = Int (pos 1) ∷ Null ∷ Int (pos version) ∷ Int (pos o.group) ∷ Int (pos o.member) ∷ Int (pos o.members) ∷ Text (joined o.names) ∷ Int (pos round) ∷ Int (pos leader) ∷ []

-- the row of a vote
abbrev pub vote_row : Entry → Row
vote_row e = Int (pos e.position) ∷ Null ∷ Int (pos e.vote.ballot.round) ∷ Int (pos e.vote.ballot.member) ∷ Blob (value_spelling e.vote.value) ∷ []

-- the row of a value that is learnt at a position
abbrev pub learnt_row : (position : ℕ) → Value → Row
learnt_row p v = Int (pos p) ∷ Null ∷ Blob (value_spelling v) ∷ []

-- the rows of values that are learnt at p and the positions after it
abbrev pub learnt_rows : (p : ℕ) → List Value → List Row
learnt_rows p [] = []
learnt_rows p (v ∷ vs) = learnt_row p v ∷ learnt_rows (suc p) vs

-- how many of the votes are at the position
abbrev pub times : (position : ℕ) → List Entry → ℕ
times p [] = 0
times p (e ∷ es) = cond (e.position == p) 1 0 + times p es

-- no ballot, or one that there may be among so many members
abbrev pub IsPromise : (members : ℕ) → Ballot → Type 0
IsPromise n b = (b ≡ no_ballot) ⊎ IsBallotOf n b

-- a vote that may stand under that promise among so many members: its ballot is not above it
pub record MayStand (members : ℕ) (promise : Ballot) (e : Entry) : Type 0 where
  pub most : e.position ≤ positions
  pub ballot : IsBallotOf members e.vote.ballot
  pub under : below promise e.vote.ballot ≡ false
  pub value : IsValue e.vote.value

-- A table holds the values that are learnt at 1, 2, .. and no others. In which order its rows stand is not known.
pub record AreKept (table : List Row) (learnt : List Value) : Type 0 where
  pub rows : IsPermutation (learnt_rows 1 learnt) table
  pub few : length learnt ≤ positions
  pub values : (v : Value) → Has learnt v → IsValue v

-- what each version keeps as learnt: the first nothing, and the second what its third table holds
abbrev pub KeepsLearnt : Version → Trees → List Value → Type 0
KeepsLearnt First trees learnt = learnt ≡ []
KeepsLearnt Second trees learnt = AreKept (trees 2) learnt

-- The trees hold the record of this member, in that version. In which order the rows of the votes stand is not known.
pub record IsStored (version : Version) (o : Setup) (trees : Trees) (r : Record) : Type 0 where
  pub meta : trees 0 ≡ meta_row (number_of version) o r.promise.round r.promise.member ∷ []
  pub rows : List Entry
  pub votes : trees 1 ≡ map vote_row rows
  pub once : (p : ℕ) → times p rows ≤ 1
  pub sound : (e : Entry) → Has rows e → Has r.votes e
  pub complete : (e : Entry) → Has r.votes e → Has rows e
  pub rising : IsRising r
  pub promise : IsPromise o.members r.promise
  pub each : (e : Entry) → Has r.votes e → MayStand o.members r.promise e
  pub kept : KeepsLearnt version trees r.learnt
