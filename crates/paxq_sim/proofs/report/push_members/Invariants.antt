use Rattle.std.proofs.Common.{◌≡◌, ℕ, ◌++◌, string_bytes}
use Rattle.std.specs.Prelude.{flat_map}
use Rattle.ballots.specs.Messages.{up_to}
use Rattle.paxos.specs.Records.{Record}
use Rattle.paxos.specs.World.{World as Whole}
use Rattle.world.specs.Shown.{Shows}
use Rattle.records.specs.Script.{Script}
use Rattle.paxq_sim.specs.Play.{member_line}
use Rattle.paxq_sim.proofs.report.push_members.Given as goal

-- the lines of the members before
abbrev pub invariant-loop-before : goal.invariant-loop-before
invariant-loop-before g l = (kept : ℕ → Record) (v : Whole) → Shows {R = Script} {A = g.row.A.Denot} g.A.Application.has_applied l.world kept v → string_bytes l.out ≡ string_bytes l.initial.out ++ flat_map (member_line v) (up_to l.before)
