-- Turns: several steps of a member whose writes are made in one, before anything that these steps send is sent.
use Rattle.std.specs.Prelude.{◌≡◌, ℕ, List, [], ◌∷◌, ◌++◌, None}
use Rattle.ballots.specs.Messages.{Packet}
use Rattle.paxos.specs.Application.{Application}
use Rattle.paxos.specs.Lists.{Has}
use Rattle.paxos.specs.World.{World, Stop, Happening, run}

-- How the one write ends: it is acknowledged, and then what the steps send is sent. Or the member stops in it, or its store fails, which stops
-- it too: nothing is sent, and a crash leaves the record after the last step or the one before the first.
pub data Ending : Type 0 where
  Acknowledged : Ending
  StoppedAfter : Ending
  StoppedBefore : Ending

-- of a member these steps, and how their write ends
pub record Turn : Type 0 where
  pub member : ℕ
  pub steps : List Happening
  pub ending : Ending

-- the member stops
abbrev pub stops : (member : ℕ) → Happening
stops m = record { event = Stop m; choice = record { fails = None; applied = 0 } }

-- the world as it is now, but that nothing was sent since another
abbrev pub with_sent_of : (before now : World) → World
with_sent_of w v = record { members = v.members; sent = w.sent; votes = v.votes; told = v.told }

-- what a turn does
abbrev pub ends_in : Application → World → (member : ℕ) → List Happening → Ending → World
ends_in app w m steps Acknowledged = run app w steps
ends_in app w m steps StoppedAfter = with_sent_of w (run app w (steps ++ stops m ∷ []))
ends_in app w m steps StoppedBefore = run app w (stops m ∷ [])

-- the world that a list of turns leads to
abbrev pub run_turns : Application → World → List Turn → World
run_turns app w [] = w
run_turns app w (t ∷ ts) = run_turns app (ends_in app w t.member t.steps t.ending) ts

-- The one world is the other, but that messages were sent in the other that nobody ever got to see: they are lost.
pub record IsButForLost (v w : World) : Type 0 where
  pub members : v.members ≡ w.members
  pub votes : v.votes ≡ w.votes
  pub told : v.told ≡ w.told
  pub sent : (k : Packet) → Has v.sent k → Has w.sent k
