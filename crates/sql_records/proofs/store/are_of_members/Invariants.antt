use Rattle.std.proofs.Common.{drop}
use Rattle.std.specs.Prelude.{◌↔◌}
use Rattle.record_writes.specs.Members.{HasMembers}
use Rattle.sql_records.proofs.store.are_of_members.Given as goal

abbrev pub invariant-loop-write : goal.invariant-loop-write
invariant-loop-write l = HasMembers l.setup.members (drop l.write-index l.writes) ↔ HasMembers l.setup.members l.writes
