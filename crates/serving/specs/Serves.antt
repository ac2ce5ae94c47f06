-- What a server does round by round: it goes on by steps, its record is written, and only then its wire is given what they sent.
use Rattle.std.specs.Prelude.{◌≡◌, ◌≤◌, ◌⊎◌, ◌+◌, ◌-◌, ◌^◌, ℕ, Bool, true, false, List, [], length, Result, Ok, Err}
use Rattle.ballots.specs.declared.value.Value.{Value}
use Rattle.paxos.specs.Application.{Application}
use Rattle.paxos.specs.Records.{Record}
use Rattle.server_steps.specs.Going.{Goes, Halted, IsGivenNothing, IsWritten, Server, has_brought_beside, was_given_or_held}
use Rattle.server_steps.specs.Moves.{Deed, Halts, came_by}
use Rattle.server_steps.specs.declared.fault.ServeFault.{ServeFault}
use Rattle.wires.specs.Wires.{Carried, HasSaid}

-- a server that goes by rounds, and whether it lags: what its steps sent since the last write of its records that went well is held
pub record Rounds (R A D : Type 0) : Type 0 where
  pub server : Server R A D
  pub lags : Bool

-- What is given is written first: the record is written, and all that was held is given; or the wire was given nothing.
abbrev pub IsWrittenFirst : {R A D W : Type 0} → (is_kept : R → Type 0) → (leaves : R → Record → Record → Type 0) → (was_given : W → List (Carried D) → Type 0) → Server R A D → (v w : W) → Type 0
IsWrittenFirst is_kept leaves was_given y v w = (IsWritten is_kept leaves y × (y.held ≡ [])) ⊎ IsGivenNothing was_given v w

-- A round has ended: the record is written, and all that was held is given; or it lags, and the wire was given nothing.
abbrev pub IsEnded : {R A D W : Type 0} → (is_kept : R → Type 0) → (leaves : R → Record → Record → Type 0) → (was_given : W → List (Carried D) → Type 0) → Rounds R A D → (v w : W) → Type 0
IsEnded is_kept leaves was_given y v w = ((y.lags ≡ false) × IsWritten is_kept leaves y.server × (y.server.held ≡ [])) ⊎ ((y.lags ≡ true) × IsGivenNothing was_given v w)

-- the same, or nothing was done: the wire failed to say whether something came
abbrev pub IsEndedIfDone : {R A D W : Type 0} → (is_kept : R → Type 0) → (leaves : R → Record → Record → Type 0) → (was_given : W → List (Carried D) → Type 0) → (x y : Rounds R A D) → (v w : W) → Type 0
IsEndedIfDone is_kept leaves was_given x y v w = IsEnded is_kept leaves was_given y v w ⊎ ((y ≡ x) × IsGivenNothing was_given v w)

-- how many datagrams are taken in a round at most
abbrev pub most_a_round : ℕ
most_a_round = 64

-- Of so many turns so many are taken: the wire said so often what came. They are all, unless it failed to say more often than can be waited for it.
abbrev pub TakesAll : {D W : Type 0} → (has_brought : W → List (Carried D) → Type 0) → (has_waited : W → ℕ → ℕ → Type 0) → (turns taken : ℕ) → (v w : W) → Type 0
TakesAll has_brought has_waited turns taken v w = (failures : ℕ) × HasSaid has_brought has_waited v w taken failures × ((taken ≡ turns) ⊎ (2 ^ 64 - 1 ≤ taken + failures))

module _ {R A D W : Type 0} (has_applied : List (List ℕ) → List Value → A → Type 0) (app : List (List ℕ) → Application) (failed : R → ℕ) (eq : D → D → Bool) (was_given has_brought : W → List (Carried D) → Type 0) where
  module _ (is_kept : R → Type 0) (leaves : R → Record → Record → Type 0) where
    -- What was given to the wire was written first: the server went on to where its record was written and nothing was held, or nothing was done at all; and
    -- since then the wire was given nothing.
    pub record WritesFirst (x : Server R A D) (v w : W) : Type 0 where
      pub last : Server R A D
      pub wire : W
      pub deeds : List (Deed D)
      pub goes : Goes has_applied app failed eq (was_given_or_held was_given) (has_brought_beside has_brought) x last (x.held, v) (last.held, wire) deeds (came_by deeds)
      pub written : (IsWritten is_kept leaves last × (last.held ≡ [])) ⊎ ((last ≡ x) × (wire ≡ v))
      pub silent : IsGivenNothing was_given wire w

    -- It went by rounds. In each it took so many datagrams at most, and then it ended.
    pub data GoesByRounds (x : Rounds R A D) (v : W) : Rounds R A D → W → Type 0 where
      no_round : GoesByRounds x v x v
      one_round : (y z : Rounds R A D) (w u : W) (deeds : List (Deed D)) → GoesByRounds x v y w
          → Goes has_applied app failed eq (was_given_or_held was_given) (has_brought_beside has_brought) y.server z.server (y.server.held, w) (z.server.held, u) deeds (came_by deeds)
          → length (came_by deeds) ≤ most_a_round → IsEndedIfDone is_kept leaves was_given y z w u → GoesByRounds x v z u

  module _ (stands : R → Record → Record → Type 0) (is_kept : R → Type 0) (base : R → Record → Type 0) (leaves : R → Record → Record → Type 0) where
    -- The server went on by just these deeds, and then its node stopped, as its record was to be written; nothing was given or brought since.
    pub record HaltedAfter (deeds : List (Deed D)) (x z : Server R A D) (v w : W) : Type 0 where
      pub last : Server R A D
      pub wire : W
      pub goes : Goes has_applied app failed eq was_given has_brought x last v wire deeds []
      pub halts : Halts has_applied app failed stands is_kept base leaves last.seat z.seat
      pub silent : (ds : List (Carried D)) → was_given wire ds → was_given w ds
      pub idle : (ds : List (Carried D)) → has_brought wire ds → has_brought w ds

    -- the server went on by just these deeds, or until its node stopped, before they were done or after
    abbrev pub WentJustBy : {T : Type 0} → Result T ServeFault → (deeds : List (Deed D)) → (x y : Server R A D) (v w : W) → Type 0
    WentJustBy (Ok done) deeds x y v w = Goes has_applied app failed eq was_given has_brought x y v w deeds []
    WentJustBy (Err fault) deeds x y v w = Halted has_applied app failed eq was_given has_brought stands is_kept base leaves [] x y v w ⊎ HaltedAfter deeds x y v w
