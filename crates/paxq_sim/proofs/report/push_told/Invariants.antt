use Rattle.std.proofs.Common.{drop, string_bytes}
use Rattle.world.specs.Tellings.{told_in}
use Rattle.paxq_sim.proofs.Reports.{TellsOn}
use Rattle.paxq_sim.proofs.report.push_told.Given as goal

-- what was told before is printed
abbrev pub invariant-loop-telling : goal.invariant-loop-telling
invariant-loop-telling l = TellsOn (string_bytes l.initial.out) (told_in l.told) (string_bytes l.out) l.places (told_in (drop l.telling-index l.told))
