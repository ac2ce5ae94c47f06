use Rattle.std.proofs.Common.{◌≡◌, suc, length, IsTrue, sym, subst, arith, rules}
use Rattle.ballots.specs.Spelling.{value_spelling}
use Rattle.sqlite.specs.State.{HasCleanDisk}
use Rattle.sqlite.specs.Held.{state}
use Rattle.paxos.specs.Records.{Record, NewLearnt, written}
use Rattle.records.specs.Law.{Puts}
use Rattle.record_writes.specs.Holds.{Holds}
use Rattle.sql_records.proofs.Judged.{one_stands}
use Rattle.sql_records.proofs.Told.{leaves_told}
use Rattle.sql_records.proofs.store.SqlRecordsRecords.put_learnt.Goals as goal

pub returns-clause-law : goal.returns-clause-law
returns-clause-law g c = rw (← c.self.view_is) (λ clean last h.
    let old = state g.S.Store c.self.inside.connection in
    let o = c.self.inside.setup in
    let was : HasCleanDisk old = omega (arith, c.put_learnt-done.ensures.clean) in
    let it = (rw (← c.self.view_is) at c.requires.next) was in
    let next : IsTrue old.is_open → c.args.position ≡ suc (length last.learnt) =
    λ up. subst (λ (r : Record). c.args.position ≡ suc (length r.learnt)) (one_stands c.spellings.ensures.no_beginning old o it.0 last (λ s. g.met.S.Store.stays c.self.inside.connection.store s) up it.1 h) it.2 in
    let bytes : c.as_slice.result.now ≡ value_spelling c.args.value.now = search rules in
    subst (Puts (Holds (state g.S.Store c.put_learnt-done.new.connection) o) last (written (NewLearnt c.args.value.now) last)) (sym c.answer.ensures.result)
    (leaves_told (state g.S.Store c.put_learnt-done.new.connection) o last _ c.put_learnt-done.result (c.put_learnt-done.ensures.law clean o last c.args.value.now bytes c.put_value.ensures.spelt next h)))
