use Rattle.std.proofs.Common.{◌≡◌, flat_map}
use Rattle.ballots.specs.Messages.{up_to}
use Rattle.proposer.specs.Knowing.{asked_of}
use Rattle.proposer.proofs.lead.Lead.ask_on.Given as goal

abbrev pub invariant-loop-before : goal.invariant-loop-before
invariant-loop-before l = l.prepares.items ≡ flat_map (asked_of l.self) (up_to l.before)
