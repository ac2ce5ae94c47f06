-- What an acceptor has, and what it answers ("Paxos Made Simple", sections 2.2 and 2.5): the acceptor's part of a member's step.
use Rattle.std.specs.Prelude.{◌≡◌, ◌⊎◌, ℕ, Bool, true, false, not, if◌then◌else◌, Option, Some, None}
use Rattle.ballots.specs.Ballot.{below}
use Rattle.ballots.specs.declared.ballot.Ballot.{Ballot}
use Rattle.ballots.specs.declared.value.Vote.{Vote}
use Rattle.ballots.specs.Messages.{Window}
use Rattle.paxos.specs.Records.{Record, Write, Nothing, prepare_write, accept_write, written, window}
use Rattle.records.specs.Law.{Grew}

-- its records, the record that they keep, and whether it has stopped since their store failed
pub record Acceptor (R : Type 0) : Type 0 where
  pub records : R
  pub kept : Record
  pub is_stopped : Bool

-- what a Prepare writes, and the window that answers it; nothing below the promise
abbrev pub on_prepare_writes : Record → Ballot → Write
on_prepare_writes r b = if below b r.promise then Nothing else prepare_write r b

abbrev pub on_prepare_answers : Record → Ballot → (from : ℕ) → Option Window
on_prepare_answers r b from = if below b r.promise then None else Some (window b from r.votes)

-- what an Accept writes, and whether it is accepted; nothing below the promise
abbrev pub on_accept_writes : Record → (position : ℕ) → Vote → Write
on_accept_writes r p vote = if below vote.ballot r.promise then Nothing else accept_write r p vote

abbrev pub on_accept_answers : Record → Vote → Bool
on_accept_answers r vote = not (below vote.ballot r.promise)

-- It took a step that wrote this, and its store acknowledged it.
pub record Took {R : Type 0} (old new : Acceptor R) (write : Write) : Type 0 where
  pub running : old.is_stopped ≡ false
  pub kept : new ≡ record { records = new.records; kept = written write old.kept; is_stopped = false }

-- It has stopped: its store failed before or in this call, and in this call it leaves the old record or the new one.
pub record Stopped {R : Type 0} (stands : R → Record → Record → Type 0) (is_kept : R → Type 0) (failed : R → ℕ) (old new : Acceptor R) (write : Write) : Type 0 where
  pub stopped : new.is_stopped ≡ true
  pub cause : (old.is_stopped ≡ true) × (new ≡ old) ⊎ (old.is_stopped ≡ false) × Grew (failed old.records) (failed new.records)
  pub crash : old.is_stopped ≡ false → is_kept new.records → stands new.records old.kept (written write old.kept)

-- Nothing changed, but what its records hold beside the record.
pub record IsAsWas {R : Type 0} (failed : R → ℕ) (old new : Acceptor R) : Type 0 where
  pub kept : new ≡ record { records = new.records; kept = old.kept; is_stopped = old.is_stopped }
  pub failures : failed new.records ≡ failed old.records

-- Its store has failed in a flush and it has stopped: a crash leaves what one before the flush did, or the record with all that was written.
pub record FlushFailed {R : Type 0} (base : R → Record → Type 0) (leaves : R → Record → Record → Type 0) (is_kept : R → Type 0) (failed : R → ℕ) (old new : Acceptor R) : Type 0 where
  pub stopped : new ≡ record { records = new.records; kept = old.kept; is_stopped = true }
  pub failures : Grew (failed old.records) (failed new.records)
  pub crash : is_kept new.records → (a : Record) → base old.records a → leaves new.records a old.kept
