-- What a learner hears, as the code has it.
use Rattle.std.specs.Prelude.{◌≤◌}
use Rattle.std.specs.List.{All}
use Rattle.ballots.specs.Values.{IsPosition, positions}
use Rattle.ballots.specs.declared.value.Pair.{Pair}
use Rattle.paxos.specs.Knowledge.{Heard, AcceptedBy, ChosenAre}
use Rattle.learner.specs.Hearing.{AreAbove}
use Rattle.learner.specs.Changes.{IsMember}
use Rattle.learner.specs.declared.heard.Heard.{Heard as HeardOfCode}
use Rattle.learner.specs.declared.heard.Heard.TheVariants.{Accepted, Chosen}

-- what a message of the code says
abbrev pub heard_of : HeardOfCode → Heard
heard_of (Accepted member position vote) = AcceptedBy member position vote
heard_of (Chosen pairs) = ChosenAre pairs.items

-- its numbers are those of members and positions, and pairs stand by rising position
abbrev pub IsSent : HeardOfCode → Type 0
IsSent (Accepted member position vote) = IsMember member × IsPosition position
IsSent (Chosen pairs) = AreAbove 0 pairs.items × All (λ (e : Pair). e.position ≤ positions) pairs.items
