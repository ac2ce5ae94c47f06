use Rattle.std.proofs.Common.{drop}
use Rattle.records.proofs.Groups.{Left}
use Rattle.records.proofs.memory.with_all.Given as goal

abbrev pub invariant-loop-write : goal.invariant-loop-write
invariant-loop-write l = Left l.writes (drop l.write-index l.writes) l.kept l.next
