use Rattle.std.proofs.Common.{◌≡◌, [], rules}
use Rattle.records.specs.Script.{Stands, fates_of}
use Rattle.records.proofs.Groups.{goes_together}
use Rattle.records.proofs.script.ScriptRecordsGroupRecords.put_all.Goals as goal

pub returns-clause-goes : goal.returns-clause-goes
returns-clause-goes c = λ kept last h.
    let some : c.args.writes.now ≡ [] → ⊥ = search rules in
    goes_together (Stands c.put_some.new.self) (fates_of c.args.self.now) (fates_of c.put_some.new.self) c.args.self.now.passes last c.args.writes.now c.put_some.result some (c.put_some.ensures.goes last h)
