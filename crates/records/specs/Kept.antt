-- Records as they stand in memory.
use Rattle.std.specs.Prelude.{◌<◌, ℕ, List, [], ◌∷◌, refl}
use Rattle.std.specs.Coded.{Coded, code_by, coded×, coded_list}
use Rattle.ballots.specs.declared.ballot.Ballot.{Ballot}
use Rattle.ballots.specs.declared.value.Value.{Value}
use Rattle.ballots.specs.declared.value.Vote.{Vote}
use Rattle.ballots.specs.declared.value.Entry.{Entry}
use Rattle.ballots.specs.contracts.ballot.Ballot as ballot
use Rattle.ballots.specs.contracts.value.Entry as entry
use Rattle.ballots.specs.contracts.value.Value as value
use Rattle.paxos.specs.Records.{Record}

-- how a proof tells records apart
abbrev pub record_code : Coded Record
record_code =
    code_by (Ballot × (List Entry × List Value)) (coded× ballot.the_row.coded (coded× (coded_list entry.the_row.coded) (coded_list value.the_row.coded))) (λ r. (r.promise, (r.votes, r.learnt))) (λ p. record { promise = p.0; votes = p.1.0; learnt = p.1.1 }) (λ _. refl)

-- votes with their positions, as entries
abbrev pub entries_of : List (ℕ × Vote) → List Entry
entries_of [] = []
entries_of (e ∷ es) = record { position = e.0; vote = e.1 } ∷ entries_of es

-- all positions are above p, and rise
abbrev pub AreAbove : ℕ → List Entry → Type 0
AreAbove p [] = Unit {0}
AreAbove p (e ∷ es) = (p < e.position) × AreAbove e.position es

-- the votes stand by rising position, from 1
abbrev pub IsRising : Record → Type 0
IsRising r = AreAbove 0 r.votes
