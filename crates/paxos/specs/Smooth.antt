-- Runs in which no store stops a member, and each member applies all that it has learnt without a gap.
use Rattle.std.specs.Prelude.{◌≡◌, ◌⊎◌, ℕ, List, [], ◌∷◌, map, length, Some, None}
use Rattle.paxos.specs.Lists.{at}
use Rattle.paxos.specs.Application.{Application}
use Rattle.paxos.specs.Knowledge.{news, prefix}
use Rattle.paxos.specs.Step.{Running}
use Rattle.paxos.specs.World.{Member, World, start, Event, Happening, happens, run}

-- each running member has applied all that it has learnt without a gap
abbrev pub AllApplied : World → Type 0
AllApplied w = (m : ℕ) (x : Member) (u : Running) → at w.members m ≡ Some x → x.running ≡ Some u → u.applied ≡ prefix (length w.members) (news u.heard)

-- each member runs
abbrev pub AllRun : World → Type 0
AllRun w = (m : ℕ) (x : Member) → at w.members m ≡ Some x → (u : Running) × (x.running ≡ Some u)

-- In what happens from this world on no store fails, or none that stops a member, and each time all is applied then.
abbrev pub IsSmooth : Application → World → List Happening → Type 0
IsSmooth app w [] = Unit {0}
IsSmooth app w (h ∷ hs) = ((h.choice.fails ≡ None) ⊎ AllRun (happens app w h.choice h.event)) × AllApplied (happens app w h.choice h.event) × IsSmooth app (happens app w h.choice h.event) hs

-- The worlds that the events of n members may lead to, where no store stops a member and all is applied.
abbrev pub SmoothRun : Application → (members : ℕ) → List Event → World → Type 0
SmoothRun app n events end = (hs : List Happening) × (map (λ (h : Happening). h.event) hs ≡ events) × IsSmooth app (start n) hs × (run app (start n) hs ≡ end)
