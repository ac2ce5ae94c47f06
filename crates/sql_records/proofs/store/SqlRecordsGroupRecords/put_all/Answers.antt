use Rattle.std.proofs.Common.{refl, IsTrue, sym, subst, arith}
use Rattle.sqlite.specs.State.{HasCleanDisk}
use Rattle.sqlite.specs.Held.{state}
use Rattle.records.specs.Group.{MayBeWritten, after}
use Rattle.records.specs.Law.{Puts}
use Rattle.record_writes.specs.Holds.{Holds}
use Rattle.record_writes.specs.Members.{HasMembers}
use Rattle.sql_records.proofs.Judged.{one_stands}
use Rattle.sql_records.proofs.Told.{leaves_told}
use Rattle.sql_records.proofs.store.SqlRecordsGroupRecords.put_all.Goals as goal

pub returns-clause-law : goal.returns-clause-law
returns-clause-law g c = rw (← c.self.view_is) (λ clean last h.
    let old = state g.S.Store c.self.inside.connection in
    let o = c.self.inside.setup in
    let was : HasCleanDisk old = omega (arith, c.put_all-done.ensures.clean) in
    let it = (rw (← c.self.view_is) at c.requires.due) was in
    let members : HasMembers o.members c.args.writes.now = c.if-not-are_of_members.ensures.0 refl in
    let due : IsTrue old.is_open → MayBeWritten c.args.writes.now last =
    λ up. subst (MayBeWritten c.args.writes.now) (one_stands c.spellings.ensures.no_beginning old o it.0 last (λ s. g.met.S.Store.stays c.self.inside.connection.store s) up it.1 h) it.2 in
    subst (Puts (Holds (state g.S.Store c.put_all-done.new.connection) o) last (after c.args.writes.now last)) (sym c.answer.ensures.result)
    (leaves_told (state g.S.Store c.put_all-done.new.connection) o last _ c.put_all-done.result (c.put_all-done.ensures.law clean o last members due h)))
