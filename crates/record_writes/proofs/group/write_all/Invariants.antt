use Rattle.std.proofs.Common.{◌≡◌, ◌≤◌, drop}
use Rattle.sqlite.specs.State.{HasCleanDisk, Survives}
use Rattle.sqlite.specs.Held.{state}
use Rattle.sqlite_trees.specs.View.{doubt}
use Rattle.ballots.specs.Terms.{Setup}
use Rattle.paxos.specs.Records.{Record}
use Rattle.records.specs.Group.{AreWrites, MayBeWritten}
use Rattle.record_writes.specs.Holds.{Sees, Under}
use Rattle.record_writes.specs.Members.{HasMembers}
use Rattle.record_writes.proofs.Several.{IsWriting}
use Rattle.record_writes.proofs.group.write_all.Given as goal

abbrev pub invariant-loop-write : goal.invariant-loop-write
invariant-loop-write g l =
    let old = state g.S.Store l.initial.tx.conn.now in
    let now = state g.S.Store l.tx.conn.now in
    let rest = drop l.write-index l.writes in
    (l.tx.conn.ghost_name ≡ l.initial.tx.conn.ghost_name) × (doubt old.is_clean ≤ doubt now.is_clean) × AreWrites rest
    × (HasCleanDisk now → (o : Setup) (last first : Record) → HasMembers o.members l.writes → MayBeWritten l.writes first → Under old o last → Sees old o first → IsWriting now o last first l.writes rest l.promised)
    × Survives old now (λ _. ⊥)
