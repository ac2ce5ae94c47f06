use Rattle.std.proofs.Common.{◌≡◌, false, Err, Some, refl, sym, subst, ap, ◌∙◌}
use Rattle.ballots.specs.Terms.{Setup}
use Rattle.node.specs.Nodes.{RunsAs, records_fault}
use Rattle.paxos.specs.Step.{resumed}
use Rattle.paxos.specs.World.{applies_to}
use Rattle.records.specs.Law.{Counts}
use Rattle.paxos.specs.WellFormed.{IsRecord}
use Rattle.world.specs.Seats.{Did, IsAny, IsFit, store_in}
use Rattle.world.specs.declared.seat.Seat.{Seat}
use Rattle.world.proofs.Given.{none_there}
use Rattle.world.proofs.Settling.{did_in, did_not_start, did_start, idle_starts, idle_stays, starts, store_stopped}
use Rattle.world.proofs.seat.Seat.start.Goals as goal

pub returns-in-Ok-clause-moved : goal.returns-in-Ok-clause-moved
returns-in-Ok-clause-moved g c = λ t seat none.
    let left = sym c.take.ensures.value ∙ c.in-Some.is in
    let p : Setup × g.row.R.Denot = (c.in-Some.setup, c.in-Some.records) in
    let y = c.in-Ok.node in
    let is : c.in-Some.setup ≡ t = seat.stopped p left in
    starts {R = g.row.R.Denot} {A = g.row.A.Denot} g.R.Records.stands g.R.Records.is_kept g.A.Application.has_applied (IsFit t.members) c.args.self.now (record { node = Some y; left = c.take.new.self })
    y p none left refl c.in-Ok.ensures.kept (Did g.R.Records.failed g.R.Records.fates false (store_in c.args.self.now) (store_in (record { node = Some y; left = c.take.new.self }))) t.members t.member
    (did_in {R = g.row.R.Denot} g.R.Records.failed g.R.Records.fates false _ _ c.in-Some.records y.member.acceptor.records _ _ (store_stopped c.args.self.now p none left) refl
    (did_start {R = g.row.R.Denot} g.R.Records.failed g.R.Records.fates false c.in-Some.records y.member.acceptor.records c.in-Ok.ensures.fates))
    (λ z k. k)
    (λ k. let h = c.in-Ok.ensures.started (subst (λ (v : Setup). IsRecord v.members y.member.acceptor.kept) (sym is) k) in
    (h.applied, subst (λ (v : Setup). RunsAs {R = g.row.R.Denot} {A = g.row.A.Denot} g.A.Application.has_applied (applies_to v.members h.applied (resumed v.member y.member.acceptor.kept)) y) (c.in-Ok.ensures.setup ∙ is) h.runs_as))
    c.in-Ok.ensures.loaded

pub returns-in-Memory-clause-refused : goal.returns-in-Memory-clause-refused
returns-in-Memory-clause-refused g c =
    let none = none_there c.args.self.now.node (sym c.is_some.ensures ∙ c.if-is_some.false) in
    let back : Setup × g.row.R.Denot = (c.in-Err.setup, c.in-Err.records) in
    idle_stays {R = g.row.R.Denot} {A = g.row.A.Denot} g.R.Records.stands g.R.Records.is_kept g.A.Application.has_applied IsAny c.args.self.now (record { node = c.args.self.now.node; left = Some back })
    (c.in-Some.setup, c.in-Some.records) back none (sym c.take.ensures.value ∙ c.in-Some.is) none refl
    c.in-Err.ensures.refused.1.kept c.in-Err.ensures.refused.1.crash

pub returns-in-Store-clause-moved : goal.returns-in-Store-clause-moved
returns-in-Store-clause-moved g c = λ t seat none.
    let left = sym c.take.ensures.value ∙ c.in-Some.is in
    let p : Setup × g.row.R.Denot = (c.in-Some.setup, c.in-Some.records) in
    let back : Setup × g.row.R.Denot = (c.in-Err.setup, c.in-Err.records) in
    let new : Seat g.row.R.Denot g.row.A.Denot = record { node = c.args.self.now.node; left = Some back } in
    idle_starts {R = g.row.R.Denot} {A = g.row.A.Denot} g.R.Records.stands g.R.Records.is_kept g.A.Application.has_applied (IsFit t.members) c.args.self.now new
    p back none left none refl
    c.in-Err.ensures.refused.1.kept c.in-Err.ensures.refused.1.crash (Did g.R.Records.failed g.R.Records.fates false (store_in c.args.self.now) (store_in new)) t.members t.member
    (did_in {R = g.row.R.Denot} g.R.Records.failed g.R.Records.fates false _ _ c.in-Some.records c.in-Err.records _ _
    (store_stopped c.args.self.now p none left) (store_stopped new back none refl)
    (did_not_start {R = g.row.R.Denot} g.R.Records.failed g.R.Records.fates false c.in-Some.records c.in-Err.records
    (subst (λ f. Counts {T = Unit {0}} (g.R.Records.failed c.in-Some.records) (g.R.Records.failed c.in-Err.records) (Err (records_fault f))) c.in-Store.is c.in-Err.ensures.refused.1.counts)
    (c.in-Err.ensures.refused.1.sure (ap records_fault c.in-Store.is)) c.in-Err.ensures.refused.1.fates_are))
