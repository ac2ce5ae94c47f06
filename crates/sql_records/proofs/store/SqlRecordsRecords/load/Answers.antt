use Rattle.std.proofs.Common.{Some, refl, sym, subst, ◌∙◌, arith}
use Rattle.std.specs.Prelude.{IfSome}
use Rattle.sqlite.specs.Held.{state}
use Rattle.paxos.specs.WellFormed.{IsRecord}
use Rattle.records.specs.Law.{Grew}
use Rattle.sql_records.specs.Opened.{IsCurrent, Opened}
use Rattle.sql_records.proofs.Judged.{one_of}
use Rattle.sql_records.proofs.store.SqlRecordsRecords.load.Goals as goal

pub returns-in-Some-clause-found : goal.returns-in-Some-clause-found
returns-in-Some-clause-found g c = rw (← c.self.view_is) (λ clean.
    let here = c.self.inside.connection in
    let o = c.self.inside.setup in
    let held : IsCurrent g.S.Store here o (Some c.in-Some.record) = subst (λ read. IsCurrent g.S.Store here o read) (sym c.take.ensures.value ∙ c.in-Some.is) c.self.invariant.0 in
    let it = held clean in
    (it.1, λ a b h. one_of c.spellings.ensures.no_beginning (state g.S.Store here) o c.in-Some.record a b (λ up. g.met.S.Store.stays here.store up) it.0 it.1 h))

pub returns-in-Some-clause-sound : goal.returns-in-Some-clause-sound
returns-in-Some-clause-sound g c = rw (← c.self.view_is) (λ n is.
    let o = c.self.inside.setup in
    let held : IfSome (Some c.in-Some.record) (λ r. IsRecord o.members r) = subst (λ read. IfSome read (λ r. IsRecord o.members r)) (sym c.take.ensures.value ∙ c.in-Some.is) c.self.invariant.1 in
    subst (λ k. IsRecord k c.in-Some.record) (sym is) held)

pub returns-in-Ok-clause-sound : goal.returns-in-Ok-clause-sound
returns-in-Ok-clause-sound g c = rw (← c.self.view_is) (λ n is. subst (λ k. IsRecord k c.in-Ok.record) (sym is) c.in-Ok.ensures.sound)

pub returns-in-Ok-clause-found : goal.returns-in-Ok-clause-found
returns-in-Ok-clause-found g c = rw (← c.self.view_is) c.in-Ok.ensures.found

pub returns-in-Err-Memory-clause-crash : goal.returns-in-Err-Memory-clause-crash
returns-in-Err-Memory-clause-crash g c = rw (← c.self.view_is) (λ clean a b h. c.load.ensures.crash clean c.self.inside.setup a b h)

pub returns-in-Err : goal.returns-in-Err
returns-in-Err g c = rw (← c.self.view_is) (record {
  found = λ _. tt;
  crash = λ clean a b h. c.load.ensures.crash clean c.self.inside.setup a b h;
  kept = λ clean. omega (arith, c.load.ensures.clean);
  base = λ clean a h. absurd h;
  counts = rw c.count.ensures.fault (subst (λ (s : Opened _). Grew s.failures c.count.new.failures) c.self.view_is c.count.ensures.counted);
  fates = λ _. refl;
  passes = refl;
  sure = λ _. refl;
  sound = λ n is. tt;
  suits = λ n is. is;
})
