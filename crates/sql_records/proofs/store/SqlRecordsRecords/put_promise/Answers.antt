use Rattle.std.proofs.Common.{◌≡◌, ◌≤◌, refl, false, IsTrue, sym, subst, arith}
use Rattle.ballots.specs.Ballot.{below}
use Rattle.sqlite.specs.State.{HasCleanDisk}
use Rattle.sqlite.specs.Held.{state}
use Rattle.paxos.specs.Records.{Record, NewPromise, written}
use Rattle.records.specs.Law.{Puts}
use Rattle.record_writes.specs.Holds.{Holds}
use Rattle.sql_records.proofs.Judged.{one_stands}
use Rattle.sql_records.proofs.Told.{leaves_told}
use Rattle.sql_records.proofs.store.SqlRecordsRecords.put_promise.Goals as goal

pub returns-clause-law : goal.returns-clause-law
returns-clause-law g c = rw (← c.self.view_is) (λ clean last h.
    let old = state g.S.Store c.self.inside.connection in
    let o = c.self.inside.setup in
    let was : HasCleanDisk old = omega (arith, c.put_promise-done.ensures.clean) in
    let it = (rw (← c.self.view_is) at c.requires.not_below) was in
    let within : c.args.ballot.member ≤ o.members = c.if-not-has_member.ensures.0 refl in
    let over : IsTrue old.is_open → below c.args.ballot last.promise ≡ false =
    λ up. subst (λ (r : Record). below c.args.ballot r.promise ≡ false) (one_stands c.spellings.ensures.no_beginning old o it.0 last (λ s. g.met.S.Store.stays c.self.inside.connection.store s) up it.1 h) it.2 in
    subst (Puts (Holds (state g.S.Store c.put_promise-done.new.connection) o) last (written (NewPromise c.args.ballot) last)) (sym c.answer.ensures.result) (leaves_told (state g.S.Store c.put_promise-done.new.connection) o last _ c.put_promise-done.result (c.put_promise-done.ensures.law clean o last within over h)))
