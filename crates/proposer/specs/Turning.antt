-- What a leader does at its next position.
use Rattle.std.specs.Prelude.{◌≡◌, ℕ, List, [], ◌++◌, Option, Some, None}
use Rattle.paxos.specs.Proposing.{Turn, passes, proposes, turns}
use Rattle.ballots.specs.Values.{positions}
use Rattle.ballots.specs.declared.value.Pair.{Pair}
use Rattle.proposer.specs.Views.{View, cover_in, report_in_view, is_learnt_in}
use Rattle.proposer.specs.declared.view.Made.{Made}
use Rattle.proposer.specs.declared.view.Turn.{Turn as TurnOfCode}
use Rattle.proposer.specs.declared.view.Turn.TheVariants.{Stop, Pass, Propose}

-- the code's turn says what comes of one
abbrev pub IsTurn : Option Turn → Turn → TurnOfCode → Type 0
IsTurn o t Stop = o ≡ None
IsTurn o t Pass = o ≡ Some (passes t)
IsTurn o t (Propose value) = o ≡ Some (proposes value t)

-- proposing, begun with these open proposals at this position, came to this
abbrev pub HasGone : (members : ℕ) → View → List Pair → (from : ℕ) → Made → Type 0
HasGone n v ps from made =
    turns n (cover_in v) (report_in_view v) (is_learnt_in v) positions (record { next = from; proposals = ps; made = [] })
    ≡ record { next = made.next; proposals = ps ++ made.proposals.items; made = made.proposals.items }
