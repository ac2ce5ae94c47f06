-- What readers see, in a world.
use Rattle.std.specs.Prelude.{◌≡◌, ℕ, List, Some}
use Rattle.ballots.specs.declared.value.Value.{Value}
use Rattle.paxos.specs.Agreement.{IsChosen}
use Rattle.paxos.specs.Lists.{at}
use Rattle.paxos.specs.World.{World}

-- the values of the list are those chosen at the positions from 1 on
abbrev pub AreChosen : World → List Value → Type 0
AreChosen w values = (position : ℕ) (value : Value) → at values position ≡ Some value → IsChosen w position value
