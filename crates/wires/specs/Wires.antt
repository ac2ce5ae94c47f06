-- What wires carry.
use Rattle.std.specs.Prelude.{◌≡◌, ◌+◌, ℕ, List, [], ◌∷◌, ◌++◌, length, take, Option, Some, None, Result, Ok, Err}
use Rattle.wires.specs.declared.wire.Arrival.{Arrival}
use Rattle.wires.specs.declared.wire.Unheard.{Unheard}

-- a datagram between one of the program's ends and an address elsewhere, on its way out or in
pub record Carried (A : Type 0) : Type 0 where
  pub end : ℕ
  pub peer : A
  pub bytes : List ℕ

-- the datagram that has come, if one has: its bytes stand at the front of the buffer
abbrev pub carried_in : {A : Type 0} → Result (Option (Arrival A)) Unheard → (buffer : List ℕ) → List (Carried A)
carried_in (Ok (Some came)) buffer = record { end = came.end; peer = came.from; bytes = take came.length buffer } ∷ []
carried_in (Ok None) buffer = []
carried_in (Err unheard) buffer = []

-- how often the wire was waited for in vain
abbrev pub vain_in : {A : Type 0} → Result (Option (Arrival A)) Unheard → ℕ
vain_in (Ok (Some came)) = 0
vain_in (Ok None) = 1
vain_in (Err unheard) = 0

-- how often it failed to say whether something came
abbrev pub failures_in : {A : Type 0} → Result (Option (Arrival A)) Unheard → ℕ
failures_in (Ok came) = 0
failures_in (Err unheard) = 1

module _ {A W : Type 0} (has_brought : W → List (Carried A) → Type 0) (has_waited : W → ℕ → ℕ → Type 0) where
  -- From the one to the other the wire said so often what came: a datagram, or none for a while. So often it failed to say, as it was waited for.
  pub record HasSaid (v w : W) (times failures : ℕ) : Type 0 where
    pub brought : List (Carried A)
    pub vain : ℕ
    pub all : vain + length brought ≡ times
    pub brings : (ds : List (Carried A)) → has_brought v ds → has_brought w (ds ++ brought)
    pub waits : (i f : ℕ) → has_waited v i f → has_waited w (vain + i) (failures + f)
