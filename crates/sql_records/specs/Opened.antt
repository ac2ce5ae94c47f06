-- What opened records stand over.
use Rattle.std.specs.Prelude.{◌≡◌, ℕ, IsTrue, Option, IfSome, refl}
use Rattle.std.specs.Coded.{Coded, code_by, coded×, coded_ℕ}
use Rattle.sqlite.specs.State.{State, HasCleanDisk}
use Rattle.sqlite.specs.Store.{Ghosts}
use Rattle.sqlite.specs.Held.{Held, held_code, state}
use Rattle.ballots.specs.Terms.{Setup, setup_code}
use Rattle.paxos.specs.Records.{Record}
use Rattle.record_writes.specs.Holds.{Holds}

-- opened records: the connection, the member whose records they are, and in how many calls the store has failed
pub record Opened (S : Type 0) : Type 0 where
  pub connection : Held S
  pub setup : Setup
  pub failures : ℕ

-- how a proof tells them apart
abbrev pub opened_code : {S : Type 0} → Coded S → Coded (Opened S)
opened_code {S} store =
    code_by (Held S × (Setup × ℕ)) (coded× (held_code store) (coded× setup_code coded_ℕ)) (λ s. (s.connection, (s.setup, s.failures))) (λ p. record { connection = p.0; setup = p.1.0; failures = p.1.1 }) (λ _. refl)

-- the connection
abbrev pub connection_of : {S : Type 0} → Opened S → Held S
connection_of s = s.connection

-- the member whose records they are
abbrev pub owner : {S : Type 0} → Opened S → Setup
owner s = s.setup

-- A record that was read, as long as it is held, is the one that stands, and the connection is open: so far as the disk is clean.
abbrev pub IsCurrent : {S : Type 0} → Ghosts S → Held S → Setup → Option Record → Type 0
IsCurrent g h o read = IfSome read (λ r. HasCleanDisk (state g h) → IsTrue (state g h).is_open × Holds (state g h) o r r)

-- A connection is as it was: if it is open still, it was open, and sees the same database, which a rollback would leave too. A transaction is under way
-- just where one was.
pub record IsAsBefore (old new : State) : Type 0 where
  pub was_open : IsTrue new.is_open → IsTrue old.is_open
  pub now : IsTrue new.is_open → new.now ≡ old.now
  pub committed : IsTrue new.is_open → new.committed ≡ old.committed
  pub mode : new.in_transaction ≡ old.in_transaction
