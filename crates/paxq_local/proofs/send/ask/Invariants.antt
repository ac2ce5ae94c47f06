use Rattle.std.proofs.Common.{◌≤◌}
use Rattle.std.specs.Prelude.{replicate}
use Rattle.paxq_local.specs.Asking.{IsGiven, most_tries}
use Rattle.paxq_local.specs.Told.{Brings}
use Rattle.paxq_local.proofs.send.ask.Given as goal

abbrev pub invariant-loop-turn : goal.invariant-loop-turn
invariant-loop-turn g l =
    Brings g.W.Wire.has_brought l.initial.wire l.wire (λ brought. Unit {0})
    × (l._turn ≤ most_tries)
    × IsGiven g.W.Wire.was_given l.initial.wire l.wire (replicate l._turn (record { end = 0; peer = l.fn.to; bytes = l.fn.asked.bytes.items }))
